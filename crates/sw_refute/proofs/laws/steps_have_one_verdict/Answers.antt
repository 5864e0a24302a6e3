use Rattle.sw_refute.proofs.Verdicts.{one_verdict}
use Rattle.sw_refute.proofs.laws.steps_have_one_verdict.Goals as goal

pub returns : goal.returns
returns c = one_verdict
