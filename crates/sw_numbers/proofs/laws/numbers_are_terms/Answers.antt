use Rattle.sw_numbers.proofs.NumbersOfTerms.{numbers_are}
use Rattle.sw_numbers.proofs.laws.numbers_are_terms.Goals as goal

pub returns : goal.returns
returns c = numbers_are
