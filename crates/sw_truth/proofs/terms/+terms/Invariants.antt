use Rattle.std.proofs.Common.{◌≡◌, take, false}
use Rattle.std.specs.List.{list_any}
use Rattle.sw_logic.specs.Terms.{has}
use Rattle.sw_truth.proofs.terms.+terms.Given as goal

abbrev pub invariant-any_has-loop-term : goal.invariant-any_has-loop-term
invariant-any_has-loop-term l = list_any (has l.variable) (take l.term-index l.terms) ≡ false
