use Rattle.std.proofs.Common.{◌≡◌, ◌-◌, All, vec_len}
use Rattle.sw_breadth.specs.Joins.{AreSeats, AreFirst, IsPlace}
use Rattle.sw_breadth.proofs.sharing.Shared.split_all.Given as goal

abbrev pub invariant-loop : goal.invariant-loop
invariant-loop l = record {
  seats : AreSeats l.self l.first;
  first : AreFirst l.initial.first.claim.view.parts l.initial.first.log.view.seen l.counter (l.workers - l.counter) l.first;
  len : vec_len l.places ≡ l.counter;
  new : All (λ place. IsPlace l.self l.initial.first.claim.view.parts l.initial.first.log.view.seen l.pool place.1.now place.2.now place.0) l.places.items;
}
