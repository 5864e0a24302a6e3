use Rattle.std.proofs.Common.{◌-◌}
use Rattle.sw_sat.specs.Trail.{all_clauses, IsState, IsQuietFrom, Grows}
use Rattle.sw_sat.proofs.propagate.propagate.Given as goal

abbrev pub invariant-loop-head : goal.invariant-loop-head
invariant-loop-head l = record {
  state : IsState l.cnf.variables (all_clauses l.cnf l.steps) l.trail;
  grows : Grows l.initial.trail.entries.items l.trail.entries.items;
  quiet : IsQuietFrom (all_clauses l.cnf l.steps) l.trail.entries.items l.head;
}

abbrev pub decreases-loop-head : goal.decreases-loop-head
decreases-loop-head l = l.cnf.variables - l.head
