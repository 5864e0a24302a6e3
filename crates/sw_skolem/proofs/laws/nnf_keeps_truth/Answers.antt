use Rattle.sw_skolem.proofs.PlainTruth.{keeps_truth}
use Rattle.sw_skolem.proofs.laws.nnf_keeps_truth.Goals as goal

pub returns : goal.returns
returns c = keeps_truth
