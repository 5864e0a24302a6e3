use Rattle.std.proofs.Common.{◌≡◌, ◌++◌, ◌∷◌, ℕ, List, map, take}
use Rattle.sw_instances.proofs.instances.push_longer.Given as goal

abbrev pub invariant-loop-tuple : goal.invariant-loop-tuple
invariant-loop-tuple l = l.all ≡ l.initial.all ++ map (λ (tuple : List ℕ). l.fn.n ∷ tuple) (take l.tuple-index l.tuples)
