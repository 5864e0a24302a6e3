use Rattle.std.proofs.Common.{◌≡◌, length}
use Rattle.sw_strata.specs.Reaching.{AreTables}
use Rattle.sw_strata.proofs.ranks.ranked.Given as goal

abbrev pub invariant-loop-sort : goal.invariant-loop-sort
invariant-loop-sort l = (length l.tables ≡ l.sort) × AreTables l.sorts l.edges l.tables
