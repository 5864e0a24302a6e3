use Rattle.std.proofs.Common.{◌≡◌, ◌+◌, ◌<◌, length}
use Rattle.sw_sat.specs.Analysis.{IsSeenBetween, Leads}
use Rattle.sw_sat.specs.Trail.{all_clauses}
use Rattle.sw_sat.proofs.analyze.Analysis.first_unique_point.Given as goal

abbrev pub invariant-loop-self : goal.invariant-loop-self
invariant-loop-self l = record {
  size : length l.self.seen.items ≡ length l.initial.self.seen.items;
  within : l.at < length l.trail.entries.items;
  some : IsSeenBetween l.self.seen.items l.trail.entries.items l.start (l.at + 1);
  leads : Leads (all_clauses l.cnf l.steps) l.trail.entries.items l.self.seen.items l.self.hints.items (l.at + 1);
}

abbrev pub decreases-loop-self : goal.decreases-loop-self
decreases-loop-self l = l.at
