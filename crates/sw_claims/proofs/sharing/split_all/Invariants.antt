use Rattle.std.proofs.Common.{◌≡◌, ◌+◌, [], All, vec_len}
use Rattle.sw_claims.specs.Sharing.{IsFresh, IsFirstSeat}
use Rattle.sw_claims.proofs.sharing.split_all.Given as goal

abbrev pub invariant-loop-seat : goal.invariant-loop-seat
invariant-loop-seat l =
    IsFirstSeat l.claims l.initial.first.view.parts (vec_len l.seats) l.first × (l.first.view.drawn ≡ []) × (vec_len l.seats + l.first.view.splits ≡ l.initial.first.view.splits)
    × All (IsFresh l.claims l.initial.first.view.parts) l.seats.items

abbrev pub decreases-loop-seat : goal.decreases-loop-seat
decreases-loop-seat l = l.first.view.splits
