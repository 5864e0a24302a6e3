use Rattle.sw_meaning_examples.proofs.Written.{written}
use Rattle.sw_meaning_examples.proofs.formulas_are_written.Goals as goal

pub returns : goal.returns
returns c = written
