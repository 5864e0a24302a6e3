use Rattle.sw_meaning_examples.proofs.Told.{told}
use Rattle.sw_meaning_examples.proofs.words_are_told.Goals as goal

pub returns : goal.returns
returns c = told
