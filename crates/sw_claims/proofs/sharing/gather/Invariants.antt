use Rattle.std.proofs.Common.{◌≡◌, ◌+◌, length, All, IfOk, vec_len}
use Rattle.std.specs.Vec.Iter.{into_iter_items}
use Rattle.sw_claims.specs.Sharing.{IsShare, IsFirstSeat, HasTaken}
use Rattle.sw_claims.proofs.sharing.gather.Given as goal

abbrev pub invariant-loop-share : goal.invariant-loop-share
invariant-loop-share l =
    IsFirstSeat l.claims l.initial.first.view.parts (length (into_iter_items l.share-iterator)) l.first × HasTaken l.lists.items l.first
    × (vec_len l.lists + length (into_iter_items l.share-iterator) ≡ vec_len l.fn.shares) × All (λ share. IfOk share (IsShare l.claims)) (into_iter_items l.share-iterator)
