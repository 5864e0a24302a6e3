use Rattle.std.proofs.Common.{◌≡◌, take}
use Rattle.sw_logic.specs.Strata.{sorts_of}
use Rattle.sw_strata.proofs.edges.binder_sorts.Given as goal

abbrev pub invariant-loop-binder : goal.invariant-loop-binder
invariant-loop-binder l = l.sorts ≡ sorts_of (take l.binder-index l.binders)
