use Rattle.std.proofs.Common.{◌≡◌, ◌+◌, take}
use Rattle.sw_hand.proofs.Used.{places_from}
use Rattle.sw_hand.proofs.hand.Hand.used_places.Given as goal

abbrev pub invariant-loop-used : goal.invariant-loop-used
invariant-loop-used g l = record {
  counted : l.number ≡ l.from + l.used-index;
  placed : l.places ≡ places_from l.from (take l.used-index l.used-items);
}
