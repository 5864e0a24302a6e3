use Rattle.std.proofs.Common.{arith, refl}
use Rattle.sw_hand.proofs.Used.{places_next}
use Rattle.sw_hand.proofs.hand.Hand.used_places.Goals as goal

pub loop-used-preserved : goal.loop-used-preserved
loop-used-preserved g c = record {
  counted = omega arith;
  placed = places_next c.args.from c.loop-used.number c.as_slice-used-items.result.now c.loop-used.used-index _ _ c.loop-used.places c.push_where.new.places (omega arith) refl
      c.loop-used.invariant.counted c.loop-used.invariant.placed c.in_ok-push_where.ensures;
}
