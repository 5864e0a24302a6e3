use Rattle.std.proofs.Common.{◌∙◌, ap, ℕ}
use Rattle.sw_universe.specs.Sizes.{capped, equalities}
use Rattle.sw_universe.specs.Counting.{count_in}
use Rattle.sw_universe.proofs.Sized.{range_more, again}
use Rattle.sw_universe.proofs.sizes.all_equality.Goals as goal

pub loop-sort-preserved : goal.loop-sort-preserved
loop-sort-preserved c =
    let f = λ (sort : ℕ). equalities (count_in c.args.counts.now sort) in
    range_more f c.loop-sort.sort c.loop-sort.total c.add-total.result c.equality.result c.loop-sort.invariant
    (again c.equality.result (equalities c.count.result) c.equality.ensures ∙ ap (λ (k : ℕ). capped (equalities k)) c.count.ensures) c.add-total.ensures
