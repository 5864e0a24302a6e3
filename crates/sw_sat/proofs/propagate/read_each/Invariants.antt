use Rattle.std.proofs.Common.{length, take}
use Rattle.sw_sat.specs.Trail.{all_clauses, IsState, AreQuiet, Grows}
use Rattle.sw_sat.proofs.propagate.read_each.Given as goal

abbrev pub invariant-loop-number : goal.invariant-loop-number
invariant-loop-number l = record {
  state : IsState l.cnf.variables (all_clauses l.cnf l.steps) l.trail;
  grows : Grows l.initial.trail.entries.items l.trail.entries.items;
  quiet : AreQuiet (all_clauses l.cnf l.steps) (take l.number-index l.numbers) l.trail.entries.items (length l.initial.trail.entries.items);
}
