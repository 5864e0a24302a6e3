use Rattle.std.proofs.Common.{◌≡◌, ◌<◌, ℕ, Some, length, slice_get}
use Rattle.sw_refute.specs.declared.clauses.Clause.{Clause}
use Rattle.sw_sat.specs.Trail.{all_clauses, IsState, IsQuiet, Grows}
use Rattle.sw_sat.proofs.propagate.read_all.Given as goal

abbrev pub invariant-loop-number : goal.invariant-loop-number
invariant-loop-number l = record {
  state : IsState l.cnf.variables (all_clauses l.cnf l.steps) l.trail;
  grows : Grows l.initial.trail.entries.items l.trail.entries.items;
  quiet : (k : ℕ) (c : Clause) → k < l.number → slice_get (all_clauses l.cnf l.steps) k ≡ Some c → IsQuiet l.trail.entries.items (length l.initial.trail.entries.items) c;
}
