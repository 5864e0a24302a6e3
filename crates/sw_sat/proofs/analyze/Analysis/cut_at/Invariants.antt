use Rattle.std.proofs.Common.{ℕ, ◌<◌, ◌≤◌}
use Rattle.sw_sat.specs.Trail.{IsDecision}
use Rattle.sw_sat.specs.Analysis.{NoneSeenBetween}
use Rattle.sw_sat.proofs.analyze.Analysis.cut_at.Given as goal

abbrev pub invariant-loop-at : goal.invariant-loop-at
invariant-loop-at l = record {
  decision : IsDecision l.trail.entries.items l.keep;
  low : l.at ≤ l.keep;
  high : l.keep ≤ l.start;
  none : NoneSeenBetween l.self.seen.items l.trail.entries.items l.at l.start;
  levels : (at : ℕ) → l.at ≤ at → at < l.keep → IsDecision l.trail.entries.items at → ⊥;
}

abbrev pub decreases-loop-at : goal.decreases-loop-at
decreases-loop-at l = l.at
