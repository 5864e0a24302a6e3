use Rattle.sw_refute.proofs.Following.{step_follows}
use Rattle.sw_refute.proofs.laws.accepted_step_follows.Goals as goal

pub returns : goal.returns
returns c = step_follows
