use Rattle.std.proofs.Common.{◌≡◌, ◌++◌}
use Rattle.std.specs.List.{flat_map, range_with_len}
use Rattle.sw_instances.specs.AllInstances.{equality_instances}
use Rattle.sw_instances.proofs.instances.push_equalities.Given as goal

abbrev pub invariant-loop-sort : goal.invariant-loop-sort
invariant-loop-sort l = l.all ≡ l.initial.all ++ flat_map (equality_instances l.universe) (range_with_len 0 l.sort)
