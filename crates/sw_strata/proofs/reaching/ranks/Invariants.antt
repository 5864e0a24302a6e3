use Rattle.std.proofs.Common.{◌≡◌, map}
use Rattle.std.specs.List.{range_with_len}
use Rattle.sw_strata.specs.Reaching.{rank_in}
use Rattle.sw_strata.proofs.reaching.ranks.Given as goal

abbrev pub invariant-loop-sort : goal.invariant-loop-sort
invariant-loop-sort l = l.ranks ≡ map (rank_in l.tables) (range_with_len 0 l.sort)
