use Rattle.std.proofs.Common.{◌≡◌, ◌++◌, map}
use Rattle.std.specs.List.{range_with_len}
use Rattle.sw_truth.specs.declared.instances.Instance.TheVariants.{Symmetric}
use Rattle.sw_instances.proofs.instances.push_symmetric_with.Given as goal

abbrev pub invariant-loop-u : goal.invariant-loop-u
invariant-loop-u l = l.all ≡ l.initial.all ++ map (Symmetric l.fn.sort l.fn.t) (range_with_len 0 l.u)
