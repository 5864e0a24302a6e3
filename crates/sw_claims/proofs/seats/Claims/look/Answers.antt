use Rattle.std.proofs.Common.{rules}
use Rattle.sw_claims.proofs.ClaimsKeep.{looks}
use Rattle.sw_claims.proofs.seats.Claims.look.Goals as goal

pub load-requires : goal.load-requires
load-requires c = (search rules, search rules, looks _ _ _ _ c.seat.invariant.live)
