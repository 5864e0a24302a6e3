use Rattle.std.specs.Prelude.{None}
use Rattle.sw_search.proofs.Searchable.{can_search}
use Rattle.sw_worker_tests.proofs.alone.round.Goals as goal

pub work-requires-clause-can : goal.work-requires-clause-can
work-requires-clause-can g c =
    let task = c.args.task.now in
    let can = c.requires.can in
    can_search task.protocol.now can.extra task.space.now c.requires.well_formed can.breadth can.stratified None tt
