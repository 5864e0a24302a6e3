use Rattle.sw_refute.proofs.Following.{empty_refutes}
use Rattle.sw_refute.proofs.laws.empty_step_refutes.Goals as goal

pub returns : goal.returns
returns c = empty_refutes
