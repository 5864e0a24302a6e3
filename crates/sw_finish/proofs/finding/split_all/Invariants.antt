use Rattle.std.proofs.Common.{◌≡◌, ◌+◌, All, vec_len}
use Rattle.sw_claims.specs.Sharing.{IsFresh}
use Rattle.sw_finish.specs.Joins.{IsFirst, IsUnused}
use Rattle.sw_finish.proofs.finding.split_all.Given as goal

abbrev pub invariant-loop-seat : goal.invariant-loop-seat
invariant-loop-seat l = record {
  seat : IsFirst l.claims l.initial.first.view.parts (vec_len l.seats) l.first;
  unused : IsUnused l.first.view;
  count : vec_len l.seats + l.first.view.splits ≡ l.initial.first.view.splits;
  fresh : All (IsFresh l.claims l.initial.first.view.parts) l.seats.items;
}

abbrev pub decreases-loop-seat : goal.decreases-loop-seat
decreases-loop-seat l = l.first.view.splits
