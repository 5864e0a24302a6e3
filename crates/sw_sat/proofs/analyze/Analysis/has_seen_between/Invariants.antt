use Rattle.std.proofs.Common.{◌≤◌, ◌-◌}
use Rattle.sw_sat.specs.Analysis.{NoneSeenBetween}
use Rattle.sw_sat.proofs.analyze.Analysis.has_seen_between.Given as goal

abbrev pub invariant-loop-at : goal.invariant-loop-at
invariant-loop-at l = record {
  within : l.at ≤ l.to;
  none : NoneSeenBetween l.self.seen.items l.trail.entries.items l.at l.to;
}

abbrev pub decreases-loop-at : goal.decreases-loop-at
decreases-loop-at l = l.at - l.from
