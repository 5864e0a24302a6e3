use Rattle.std.proofs.Common.{◌≡◌, ◌-◌, length}
use Rattle.sw_claims.proofs.sharing.draw_share.Given as goal

abbrev pub invariant-loop-number : goal.invariant-loop-number
invariant-loop-number l = (l.seat.object ≡ l.fn.claims) × (l.seat.view.drawn ≡ l.numbers.items) × (l.seat.view.wrote ≡ 0)

abbrev pub decreases-loop-number : goal.decreases-loop-number
decreases-loop-number l = l.seat.view.parts - length l.seat.view.drawn
