use Rattle.std.proofs.Common.{◌≡◌, take}
use Rattle.sw_strata.specs.Reaching.{rank_in}
use Rattle.sw_strata.proofs.reaching.rank.Given as goal

abbrev pub invariant-loop-found : goal.invariant-loop-found
invariant-loop-found l = l.rank ≡ rank_in (take l.found-index l.tables) l.sort
