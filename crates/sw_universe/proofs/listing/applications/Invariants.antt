use Rattle.std.proofs.Common.{◌≡◌, take}
use Rattle.sw_universe.specs.Listing.{listed_in}
use Rattle.sw_universe.proofs.Listed.{applications_among}
use Rattle.sw_universe.proofs.listing.applications.Given as goal

abbrev pub invariant-loop-number : goal.invariant-loop-number
invariant-loop-number l = l.terms ≡ applications_among (listed_in l.lists) (take l.number l.symbol-items) l.sort
