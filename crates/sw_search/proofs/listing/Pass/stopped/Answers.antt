use Rattle.std.specs.Prelude.{string_bytes}
use Rattle.sw_search.specs.Phases.{ended_of}
use Rattle.sw_search.proofs.Breadth.{stops}
use Rattle.sw_search.proofs.listing.Pass.stopped.Goals as goal

pub returns : goal.returns
returns c =
    let pass = c.args.self.now in
    stops pass.protocol.now pass.space.now c.requires.well_formed c.requires.can pass.workers pass.budget c.args.query.now
    (ended_of c.args.ending) c.requires.asked (string_bytes c.in_ok-line.line) c.in_ok-line.ensures
