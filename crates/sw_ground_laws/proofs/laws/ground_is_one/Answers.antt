use Rattle.sw_ground_laws.proofs.OneGround.{one_ground}
use Rattle.sw_ground_laws.proofs.laws.ground_is_one.Goals as goal

pub returns : goal.returns
returns c = one_ground
