use Rattle.std.proofs.Common.{◌≡◌, ◌++◌, ℕ, List, map, take}
use Rattle.std.specs.List.{flat_map, range_with_len}
use Rattle.sw_truth.specs.declared.instances.Instance.TheVariants.{Congruent}
use Rattle.sw_instances.proofs.instances.push_congruent_at.Given as goal

abbrev pub invariant-loop-terms : goal.invariant-loop-terms
invariant-loop-terms l = l.all ≡ l.initial.all ++ flat_map (λ (ns : List ℕ). map (Congruent l.fn.symbol l.fn.place ns) (range_with_len 0 l.fn.n)) (take l.terms-index l.tuples)
