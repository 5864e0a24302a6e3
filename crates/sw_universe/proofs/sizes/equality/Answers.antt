use Rattle.sw_universe.proofs.Sized.{equality_count}
use Rattle.sw_universe.proofs.sizes.equality.Goals as goal

pub returns : goal.returns
returns c = equality_count c.args.count c.times-square.result c.times-cube.result c.add-more.result c.add.result c.times-square.ensures c.times-cube.ensures c.add-more.ensures c.add.ensures
