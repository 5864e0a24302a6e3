use Rattle.std.proofs.Common.{◌≡◌, ◌≤◌, ◌*◌, ◌-◌, ℕ, [], length, map, get_or}
use Rattle.sw_sat.proofs.occurrences.Occurrences.new.Given as goal

abbrev pub invariant-loop-alloc : goal.invariant-loop-alloc
invariant-loop-alloc l = record {
  size : length l.lists.items ≤ 2 * l.variables;
  empty : (at : ℕ) → get_or (map (λ v. v.items) l.lists.items) at [] ≡ [];
}

abbrev pub decreases-loop-alloc : goal.decreases-loop-alloc
decreases-loop-alloc l = 2 * l.variables - length l.lists.items
