use Rattle.sw_space.proofs.OneSpace.{one_space}
use Rattle.sw_space.proofs.laws.one_space.Goals as goal

pub returns : goal.returns
returns c = one_space
