use Rattle.std.specs.Prelude.{None, []}
use Rattle.std.proofs.Common.{sym, subst}
use Rattle.sw_enumerate.specs.Spaces.{Made, parts_in, formula_in}
use Rattle.sw_search.specs.Spaces.{IsReadable}
use Rattle.sw_search.proofs.Searchable.{can_finish}
use Rattle.sw_seek.specs.Seeking.{CanFinish}
use Rattle.sw_worker_tests.proofs.together.exhausted.Goals as goal

pub finish-requires-clause-can : goal.finish-requires-clause-can
finish-requires-clause-can g c κs within =
    let p = c.args.protocol.now in
    let can = c.requires.can in
    subst (λ (s : Made). CanFinish p s.template (parts_in s) (IsReadable s) (λ b. formula_in s b.cubes) [] None) (sym c.new-classes.ensures)
    (can_finish p can.extra c.args.space.now c.requires.well_formed can.breadth can.stratified None tt [] (record { sentences = tt; adds = tt; narrow = tt }))
