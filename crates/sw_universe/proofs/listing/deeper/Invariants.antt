use Rattle.std.proofs.Common.{◌≡◌, map}
use Rattle.std.specs.List.{range_with_len}
use Rattle.sw_universe.specs.Listing.{terms_over}
use Rattle.sw_universe.proofs.listing.deeper.Given as goal

abbrev pub invariant-loop-sort : goal.invariant-loop-sort
invariant-loop-sort l = l.lists ≡ map (terms_over l.sig l.listed) (range_with_len 0 l.sort)
