-- The arguments so far have their sorts, so all do exactly where the rest does.
use Rattle.std.proofs.Common.{◌≡◌, ◌≤◌, length, drop}
use Rattle.sw_logic.specs.InScope.{sorts_in}
use Rattle.sw_logic.specs.Sorted.{sorts_match, sorts_of}
use Rattle.sw_logic.proofs.sorting.Sorting.+sorts.Given as goal

abbrev pub invariant-are_of-loop-i : goal.invariant-are_of-loop-i
invariant-are_of-loop-i l =
    let found = sorts_of l.self.signature.now l.self.post (sorts_in l.scope) l.args in
    (l.i ≤ length l.sorts) × (sorts_match (drop l.i l.sorts) (drop l.i found) ≡ sorts_match l.sorts found)
