use Rattle.std.proofs.Common.{arith, ◌∙◌}
use Rattle.sw_models.proofs.Tuples.{place_step}
use Rattle.sw_models.proofs.builder.place_of.Goals as goal

pub loop-i-preserved : goal.loop-i-preserved
loop-i-preserved c =
    let step = place_step c.args.sizes.now c.args.sorts.now c.args.tuple.now c.loop-i.i c.loop-i.at c.saturating_add-at.result c.loop-i-test.true c.requires
    (rw (← c.size_at-size.ensures) c.if-value-size.false) (rw (c.saturating_add-at.ensures, c.saturating_mul.ensures, c.size_at-size.ensures) (omega arith)) in
    (omega (arith, c.saturating_add-at.ensures), step.0 ∙ c.loop-i.invariant.1, step.1 ∙ c.loop-i.invariant.2)
