use Rattle.sw_run.proofs.Sinks.{answer_is_told}
use Rattle.sw_run.proofs.laws.answer_is_told.Goals as goal

pub returns : goal.returns
returns c = answer_is_told
