use Rattle.std.proofs.Common.{◌-◌}
use Rattle.sw_sat.specs.Trail.{AreAssigned}
use Rattle.sw_sat.proofs.solver.unassigned.Given as goal

abbrev pub invariant-loop-variable : goal.invariant-loop-variable
invariant-loop-variable l = AreAssigned l.variable l.trail.entries.items

abbrev pub decreases-loop-variable : goal.decreases-loop-variable
decreases-loop-variable l = l.variables - l.variable
