use Rattle.std.proofs.Common.{◌≡◌, ◌++◌, map, take}
use Rattle.sw_skolem.specs.Skolem.{skolem_symbol}
use Rattle.sw_skolem.proofs.existentials.Outer.put_symbols.Given as goal

abbrev pub invariant-loop-binder : goal.invariant-loop-binder
invariant-loop-binder l = l.made ≡ l.initial.made ++ map (skolem_symbol l.self.sorts l.universals) (take l.binder-index l.binders)
