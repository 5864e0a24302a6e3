use Rattle.sw_meaning_examples.proofs.Given.{given}
use Rattle.sw_meaning_examples.proofs.axioms_are_given.Goals as goal

pub returns : goal.returns
returns c = given
