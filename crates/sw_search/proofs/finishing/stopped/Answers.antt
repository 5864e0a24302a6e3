use Rattle.std.specs.Prelude.{string_bytes}
use Rattle.std.specs.Option.{option_copied}
use Rattle.sw_search.specs.Phases.{ended_of}
use Rattle.sw_search.proofs.Finish.{stops}
use Rattle.sw_search.proofs.finishing.stopped.Goals as goal

pub returns : goal.returns
returns c =
    let found = c.args.found.now in
    stops found.protocol.now (option_copied found.breadth) (option_copied found.finish) found.workers found.budget found.list.now
    c.args.space.now c.requires.can c.requires.space c.args.query.now (ended_of c.args.ending) c.requires.asked (string_bytes c.in_ok-line.line) c.in_ok-line.ensures
