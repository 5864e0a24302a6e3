use Rattle.std.proofs.Common.{◌≡◌, map, take}
use Rattle.sw_numbers.specs.Numbers.{number_of}
use Rattle.sw_numbers.proofs.terms.Terms.+numbers.Given as goal

abbrev pub invariant-numbers-loop-term : goal.invariant-numbers-loop-term
invariant-numbers-loop-term l = l.numbers ≡ map (number_of l.self.signature.now l.self.counts l.self.firsts l.values) (take l.term-index l.terms)
