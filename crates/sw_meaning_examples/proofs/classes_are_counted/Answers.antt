use Rattle.sw_meaning_examples.proofs.Counted.{counted}
use Rattle.sw_meaning_examples.proofs.classes_are_counted.Goals as goal

pub returns : goal.returns
returns c = counted
