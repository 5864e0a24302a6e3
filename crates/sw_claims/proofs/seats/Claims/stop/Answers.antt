use Rattle.std.proofs.Common.{rules}
use Rattle.sw_claims.proofs.ClaimsKeep.{stops}
use Rattle.sw_claims.proofs.seats.Claims.stop.Goals as goal

pub compare_exchange-found-requires : goal.compare_exchange-found-requires
compare_exchange-found-requires c = (search rules, search rules, stops _ _ _ _ _ c.seat.invariant.live)
