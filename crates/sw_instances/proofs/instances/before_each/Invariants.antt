use Rattle.std.proofs.Common.{◌≡◌, ◌∷◌, ℕ, List, map}
use Rattle.std.specs.List.{flat_map, range_with_len}
use Rattle.sw_instances.proofs.instances.before_each.Given as goal

abbrev pub invariant-loop-n : goal.invariant-loop-n
invariant-loop-n l = l.longer ≡ flat_map (λ n. map (λ (tuple : List ℕ). n ∷ tuple) l.tuples) (range_with_len 0 l.n)
