use Rattle.std.proofs.Common.{◌≡◌, ◌++◌, map}
use Rattle.std.specs.List.{range_with_len}
use Rattle.sw_truth.specs.declared.instances.Instance.TheVariants.{Reflexive}
use Rattle.sw_instances.proofs.instances.push_reflexive.Given as goal

abbrev pub invariant-loop-t : goal.invariant-loop-t
invariant-loop-t l = l.all ≡ l.initial.all ++ map (Reflexive l.fn.sort) (range_with_len 0 l.t)
