use Rattle.std.proofs.Common.{◌≡◌, ◌++◌, take, map}
use Rattle.sw_logic.specs.declared.syntax.Binder.{Binder}
use Rattle.sw_skolem.proofs.existentials.put_sorts.Given as goal

abbrev pub invariant-loop-binder : goal.invariant-loop-binder
invariant-loop-binder l = l.sorts ≡ l.initial.sorts ++ map (λ (b : Binder). b.sort) (take l.binder-index l.binders)
