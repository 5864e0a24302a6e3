use Rattle.sw_run.proofs.OneAnswer.{answers_say_the_same}
use Rattle.sw_run.proofs.laws.answers_say_the_same.Goals as goal

pub returns : goal.returns
returns c = answers_say_the_same
