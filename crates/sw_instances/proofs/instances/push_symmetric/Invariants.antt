use Rattle.std.proofs.Common.{◌≡◌, ◌++◌, map}
use Rattle.std.specs.List.{flat_map, range_with_len}
use Rattle.sw_truth.specs.declared.instances.Instance.TheVariants.{Symmetric}
use Rattle.sw_instances.proofs.instances.push_symmetric.Given as goal

abbrev pub invariant-loop-t : goal.invariant-loop-t
invariant-loop-t l = l.all ≡ l.initial.all ++ flat_map (λ t. map (Symmetric l.fn.sort t) (range_with_len 0 l.fn.n)) (range_with_len 0 l.t)
