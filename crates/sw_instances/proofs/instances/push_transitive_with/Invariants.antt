use Rattle.std.proofs.Common.{◌≡◌, ◌++◌, map}
use Rattle.std.specs.List.{flat_map, range_with_len}
use Rattle.sw_truth.specs.declared.instances.Instance.TheVariants.{Transitive}
use Rattle.sw_instances.proofs.instances.push_transitive_with.Given as goal

abbrev pub invariant-loop-u : goal.invariant-loop-u
invariant-loop-u l = l.all ≡ l.initial.all ++ flat_map (λ u. map (Transitive l.fn.sort l.fn.t u) (range_with_len 0 l.fn.n)) (range_with_len 0 l.u)
