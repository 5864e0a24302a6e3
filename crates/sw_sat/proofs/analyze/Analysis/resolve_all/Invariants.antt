use Rattle.std.proofs.Common.{◌≡◌, ◌≤◌, length}
use Rattle.sw_sat.specs.Analysis.{Leads}
use Rattle.sw_sat.specs.Trail.{all_clauses}
use Rattle.sw_sat.proofs.analyze.Analysis.resolve_all.Given as goal

abbrev pub invariant-loop-at : goal.invariant-loop-at
invariant-loop-at l = record {
  size : length l.self.seen.items ≡ length l.initial.self.seen.items;
  within : l.at ≤ length l.trail.entries.items;
  leads : Leads (all_clauses l.cnf l.steps) l.trail.entries.items l.self.seen.items l.self.hints.items l.at;
}

abbrev pub decreases-loop-at : goal.decreases-loop-at
decreases-loop-at l = l.at
