use Rattle.sw_trees.proofs.OneAnswer.{one_answer}
use Rattle.sw_trees.proofs.laws.one_answer.Goals as goal

pub returns : goal.returns
returns c = one_answer
