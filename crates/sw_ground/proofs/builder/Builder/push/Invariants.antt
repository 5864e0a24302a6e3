use Rattle.std.proofs.Common.{◌≡◌, take}
use Rattle.sw_instances.specs.Numbered.{once}
use Rattle.sw_ground.proofs.builder.Builder.push.Given as goal

abbrev pub invariant-loop-lit : goal.invariant-loop-lit
invariant-loop-lit l = l.kept ≡ once (take l.lit-index l.lits)
