use Rattle.std.proofs.Common.{◌≤◌, length}
use Rattle.sw_sat.specs.Trail.{AreForcedFrom}
use Rattle.sw_sat.proofs.trail.Trail.last_decision.Given as goal

abbrev pub invariant-loop-at : goal.invariant-loop-at
invariant-loop-at l = record {
  within : l.at ≤ length l.self.entries.items;
  forced : AreForcedFrom l.self.entries.items l.at;
}

abbrev pub decreases-loop-at : goal.decreases-loop-at
decreases-loop-at l = l.at
