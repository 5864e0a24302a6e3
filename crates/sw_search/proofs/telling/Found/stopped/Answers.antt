use Rattle.std.proofs.Common.{refl}
use Rattle.sw_search.specs.Phases.{ended_of}
use Rattle.sw_search.specs.Searches.{Stops, IsStopped, told_safety}
use Rattle.sw_search.proofs.telling.Found.stopped.Goals as goal

pub returns : goal.returns
returns c =
    let p = c.args.self.now.protocol.now in
    let query = c.args.query in
    IsStopped.asked (told_safety p query) (ended_of c.args.ending) (Stops.in_safety c.args.self.now.list.now query c.requires.found.found refl c.requires.ended) c.in_ok-line.ensures
