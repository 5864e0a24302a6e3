use Rattle.std.proofs.Common.{rules, ◌≡◌, ℕ, Bool, false, nat_lt, arith}
use Rattle.std.proofs.lemmas.Bool.Decides.{nat_tests}
use Rattle.sw_claims.proofs.ClaimsKeep.{draws}
use Rattle.sw_claims.proofs.seats.Claims.next_number.Goals as goal

not_met : (b : Bool) (n : ℕ) → b ≡ false → b ≡ nat_lt 0 n → n ≡ 0
not_met b n e is = grind (arith, nat_tests)

pub fetch_add-number-requires : goal.fetch_add-number-requires
fetch_add-number-requires c = (search rules, search rules, draws _ _ _ _ c.seat.invariant.live (not_met c.seat.inside.met_end c.seat.inside.seat.me.0.ends c.if-seat.false c.seat.invariant.end_is))
