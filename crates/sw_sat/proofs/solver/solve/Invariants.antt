use Rattle.sw_sat.specs.Occurring.{lists_of}
use Rattle.sw_sat.specs.Progress.{IsPrepared, IsSearch, left}
use Rattle.sw_sat.proofs.solver.solve.Given as goal

abbrev pub invariant-loop-trail : goal.invariant-loop-trail
invariant-loop-trail l = record {
  search : IsSearch l.cnf l.budget l.steps.items l.trail;
  prepared : IsPrepared l.cnf l.steps.items (lists_of l.occurrences) l.trail.entries.items;
}

abbrev pub decreases-loop-trail : goal.decreases-loop-trail
decreases-loop-trail l = left l.cnf.variables l.trail.entries.items
