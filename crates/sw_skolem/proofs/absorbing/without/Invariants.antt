use Rattle.std.proofs.Common.{◌≡◌, ◌++◌, ◌≤◌, take, drop, length, ◌-◌}
use Rattle.std.specs.List.{filter}
use Rattle.sw_skolem.specs.Normal.{stays}
use Rattle.sw_skolem.proofs.absorbing.without.Given as goal

abbrev pub invariant-loop-at : goal.invariant-loop-at
invariant-loop-at l = (filter (stays l.value) l.initial.parts ≡ take l.at l.parts ++ filter (stays l.value) (drop l.at l.parts)) × (l.at ≤ length l.parts)

abbrev pub decreases-loop-at : goal.decreases-loop-at
decreases-loop-at l = length l.parts - l.at
