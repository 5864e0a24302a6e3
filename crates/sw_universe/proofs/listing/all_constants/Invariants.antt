use Rattle.std.proofs.Common.{◌≡◌, map}
use Rattle.std.specs.List.{range_with_len}
use Rattle.sw_universe.specs.GroundTerms.{constants}
use Rattle.sw_universe.proofs.listing.all_constants.Given as goal

abbrev pub invariant-loop-sort : goal.invariant-loop-sort
invariant-loop-sort l = l.lists ≡ map (constants l.sig) (range_with_len 0 l.sort)
