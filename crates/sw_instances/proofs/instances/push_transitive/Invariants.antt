use Rattle.std.proofs.Common.{◌≡◌, ◌++◌, map}
use Rattle.std.specs.List.{flat_map, range_with_len}
use Rattle.sw_truth.specs.declared.instances.Instance.TheVariants.{Transitive}
use Rattle.sw_instances.proofs.instances.push_transitive.Given as goal

abbrev pub invariant-loop-t : goal.invariant-loop-t
invariant-loop-t l = l.all ≡ l.initial.all ++ flat_map (λ t. flat_map (λ u. map (Transitive l.fn.sort t u) (range_with_len 0 l.fn.n)) (range_with_len 0 l.fn.n)) (range_with_len 0 l.t)
