-- Nothing is broken by the binders so far.
use Rattle.std.proofs.Common.{◌≡◌, ◌++◌, map, take, drop}
use Rattle.sw_text.specs.Names.{binders_faults, bound}
use Rattle.sw_text.specs.Resolving.{around}
use Rattle.sw_text.proofs.names.Names.bind_all.Given as goal

abbrev pub invariant-loop-binder : goal.invariant-loop-binder
invariant-loop-binder l = record {
  faults : binders_faults (around l.self) l.fn.scope.items l.binders ≡ binders_faults (around l.self) l.scope.items (drop l.binder-index l.binders);
  read : l.scope.items ≡ l.fn.scope.items ++ map (bound (around l.self)) (take l.binder-index l.binders);
}
