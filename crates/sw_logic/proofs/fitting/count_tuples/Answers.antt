use Rattle.std.proofs.Common.{◌∙◌, arith}
use Rattle.sw_logic.proofs.Counting.{count_more}
use Rattle.sw_logic.proofs.fitting.count_tuples.Goals as goal

pub loop-sort-preserved : goal.loop-sort-preserved
loop-sort-preserved c =
    let more = count_more c.args.sizes.now c.args.sorts.now 340282366920938463463374607431768211455 c.loop-sort.sort-index c.loop-sort.count c.saturating_mul-count.result
    c.size_at.result c.loop-sort-test.true c.size_at.ensures c.saturating_mul-count.ensures in
    (omega (arith, c.saturating_mul-count.ensures), more ∙ c.loop-sort.invariant.1)
