use Rattle.std.proofs.Common.{◌≡◌, take}
use Rattle.sw_strata.specs.Edges.{sorts_below}
use Rattle.sw_strata.proofs.edges.Scope.depended.Given as goal

abbrev pub invariant-loop-variable : goal.invariant-loop-variable
invariant-loop-variable l = l.sorts ≡ sorts_below (take l.variable l.list-items) l.formula
