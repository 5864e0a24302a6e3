use Rattle.std.proofs.Common.{take}
use Rattle.sw_instances.specs.Instances.{AreInstances}
use Rattle.sw_ground.proofs.check.first_missing.Given as goal

abbrev pub invariant-loop-k : goal.invariant-loop-k
invariant-loop-k l = AreInstances l.set l.universe (take l.k l.instances)
