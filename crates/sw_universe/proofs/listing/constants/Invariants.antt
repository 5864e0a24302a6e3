use Rattle.std.proofs.Common.{◌≡◌, take}
use Rattle.sw_universe.proofs.Listed.{constants_among}
use Rattle.sw_universe.proofs.listing.constants.Given as goal

abbrev pub invariant-loop-number : goal.invariant-loop-number
invariant-loop-number l = l.terms ≡ constants_among (take l.number l.symbol-items) l.sort
