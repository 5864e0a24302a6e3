use Rattle.std.proofs.Common.{ap}
use Rattle.sw_universe.specs.Sizes.{capped}
use Rattle.sw_universe.specs.Counting.{count_in}
use Rattle.sw_universe.proofs.Sized.{range_more}
use Rattle.sw_universe.proofs.sizes.total.Goals as goal

pub loop-sort-preserved : goal.loop-sort-preserved
loop-sort-preserved c = range_more (count_in c.args.counts.now) c.loop-sort.sort c.loop-sort.total c.add-total.result c.count.result c.loop-sort.invariant (ap capped c.count.ensures) c.add-total.ensures
