use Rattle.sw_meaning_examples.proofs.Written.{bounded}
use Rattle.sw_meaning_examples.proofs.atoms_are_bounded.Goals as goal

pub returns : goal.returns
returns c = bounded
