use Rattle.std.proofs.Common.{◌≡◌, take}
use Rattle.sw_strata.proofs.edges.Scope.copy.Given as goal

abbrev pub invariant-loop-list : goal.invariant-loop-list
invariant-loop-list l = l.sorts ≡ take l.list-index l.list-items
