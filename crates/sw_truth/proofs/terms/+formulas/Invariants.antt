use Rattle.std.proofs.Common.{◌≡◌, take, false}
use Rattle.std.specs.List.{list_any}
use Rattle.sw_logic.specs.Terms.{occurs}
use Rattle.sw_truth.proofs.terms.+formulas.Given as goal

abbrev pub invariant-any_occurs-loop-part : goal.invariant-any_occurs-loop-part
invariant-any_occurs-loop-part l = list_any (occurs l.variable) (take l.part-index l.parts) ≡ false
