use Rattle.sw_sat.specs.Trail.{literals}
use Rattle.sw_sat.specs.Progress.{IsValuation}
use Rattle.sw_sat.proofs.solver.model.Given as goal

abbrev pub invariant-loop-variable : goal.invariant-loop-variable
invariant-loop-variable l = IsValuation l.values.items (literals l.trail.entries.items) l.variable
