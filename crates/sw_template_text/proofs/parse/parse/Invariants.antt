use Rattle.sw_template_text.proofs.Grammatical.{At}
use Rattle.sw_template_text.proofs.parse.parse.Given as goal

abbrev pub invariant-loop-n : goal.invariant-loop-n
invariant-loop-n l = At l.words l.n l.runs l.state
