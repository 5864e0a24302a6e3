use Rattle.std.proofs.Common.{◌≡◌, ◌++◌, take}
use Rattle.std.specs.List.{flat_map, enumerate_from}
use Rattle.sw_instances.specs.AllInstances.{congruence_at}
use Rattle.sw_instances.proofs.instances.push_congruence.Given as goal

abbrev pub invariant-loop-k : goal.invariant-loop-k
invariant-loop-k l = l.all ≡ l.initial.all ++ flat_map (congruence_at l.universe l.fn.symbol l.tuples) (enumerate_from 0 (take l.k l.sorts))
