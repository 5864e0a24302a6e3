use Rattle.sw_refute.proofs.Following.{steps_follow}
use Rattle.sw_refute.proofs.laws.accepted_steps_follow.Goals as goal

pub returns : goal.returns
returns c = steps_follow
