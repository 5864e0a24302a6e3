use Rattle.std.proofs.Common.{ap}
use Rattle.sw_claims.specs.Seats.{SeatValue}
use Rattle.sw_claims.proofs.ClaimsKeep.{Ends, closed_with}
use Rattle.sw_claims.proofs.seats.Claims.close.Goals as goal

known : (c : goal.After-free) → Ends c.args.seat.view c.min-drawn.result
known c = let final = c.close_with-closed.ensures.values.2 in
    closed_with _ final.0 _ _ c.args.seat.view _ _ _ _ final.1 final.2 c.word.ensures c.min-drawn.ensures c.seat.invariant.parts_are c.seat.invariant.live (ap (λ (s : SeatValue). s.view) c.seat.view_is) c.requires.alone

pub returns-clause-numbers : goal.returns-clause-numbers
returns-clause-numbers c = (known c).numbers

pub returns-clause-whole : goal.returns-clause-whole
returns-clause-whole c = (known c).whole

pub returns-clause-reason : goal.returns-clause-reason
returns-clause-reason c = (known c).reason
