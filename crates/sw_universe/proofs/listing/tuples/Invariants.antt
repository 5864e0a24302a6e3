use Rattle.std.proofs.Common.{◌≡◌, ◌≤◌, map, drop, length}
use Rattle.sw_universe.specs.GroundTerms.{tuples}
use Rattle.sw_universe.specs.Listing.{listed_in}
use Rattle.sw_universe.proofs.listing.tuples.Given as goal

abbrev pub invariant-loop-at : goal.invariant-loop-at
invariant-loop-at l = (l.tails ≡ tuples (map (listed_in l.lists) (drop l.at l.sorts))) × (l.at ≤ length l.sorts)

abbrev pub decreases-loop-at : goal.decreases-loop-at
decreases-loop-at l = l.at
