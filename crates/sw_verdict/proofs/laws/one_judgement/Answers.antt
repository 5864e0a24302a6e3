use Rattle.sw_verdict.proofs.OneJudgement.{one_judgement}
use Rattle.sw_verdict.proofs.laws.one_judgement.Goals as goal

pub returns : goal.returns
returns c = one_judgement
