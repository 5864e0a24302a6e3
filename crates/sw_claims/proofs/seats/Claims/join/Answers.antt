use Rattle.std.proofs.Common.{rules}
use Rattle.sw_claims.proofs.ClaimsKeep.{joins}
use Rattle.sw_claims.proofs.seats.Claims.join.Goals as goal

pub join_seat-requires : goal.join_seat-requires
join_seat-requires c = (search rules, search rules, search rules, search rules, joins _ _ _ _ _ c.seat.invariant.live (search rules) c.other.invariant.live)
