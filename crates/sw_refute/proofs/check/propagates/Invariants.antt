use Rattle.std.proofs.Common.{◌≡◌, ◌↔◌, ◌++◌, drop}
use Rattle.sw_refute.specs.Propagation.{Propagates, clauses_of}
use Rattle.sw_refute.specs.Trail.{IsTrail}
use Rattle.sw_refute.proofs.check.propagates.Given as goal

-- the hints that are left lead on to a conflict exactly where all of them did from the beginning
abbrev pub invariant-loop-i : goal.invariant-loop-i
invariant-loop-i l = record {
  trail : IsTrail l.trail;
  variables : l.trail.variables ≡ l.initial.trail.variables;
  rest : Propagates (l.cnf.clauses ++ clauses_of l.earlier) l.trail.lits.items (drop l.i l.hints) ↔ Propagates (l.cnf.clauses ++ clauses_of l.earlier) l.initial.trail.lits.items l.hints;
}
