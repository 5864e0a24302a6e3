-- The copies so far.
use Rattle.std.proofs.Common.{◌≡◌, take}
use Rattle.sw_logic.proofs.copy.+terms.Given as goal

abbrev pub invariant-copy_terms-loop-term : goal.invariant-copy_terms-loop-term
invariant-copy_terms-loop-term l = l.copies ≡ take l.term-index l.terms
