use Rattle.std.proofs.Common.{◌≡◌, ◌++◌, take, map}
use Rattle.sw_logic.specs.declared.syntax.Binder.{Binder}
use Rattle.sw_strata.proofs.edges.Scope.existential.Given as goal

abbrev pub invariant-loop-binder : goal.invariant-loop-binder
invariant-loop-binder l = l.sorts ≡ l.initial.sorts ++ map (λ (b : Binder). l.depended) (take l._binder-index l.binders)
