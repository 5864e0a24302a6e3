-- The parts so far are well sorted.
use Rattle.std.proofs.Common.{◌≡◌, take, true}
use Rattle.std.specs.List.{list_all}
use Rattle.sw_logic.specs.InScope.{sorts_in}
use Rattle.sw_logic.specs.Sorted.{well_sorted}
use Rattle.sw_logic.proofs.sorting.Sorting.+formulas.Given as goal

abbrev pub invariant-all_sorted-loop-part : goal.invariant-all_sorted-loop-part
invariant-all_sorted-loop-part l = list_all (λ p. well_sorted l.self.signature.now l.self.post p (sorts_in l.scope)) (take l.part-index l.parts) ≡ true
