use Rattle.std.proofs.Common.{ap, length, arith}
use Rattle.std.specs.Vec.Iter.{into_iter_items}
use Rattle.sw_claims.proofs.Gathers.{share_taken}
use Rattle.sw_claims.proofs.sharing.gather.Goals as goal

pub loop-share-preserved : goal.loop-share-preserved
loop-share-preserved c = let h = c.loop-share.invariant in let st = c.in-Some.ensures.steps in
    let t = share_taken c.args.claims.now c.args.first.now.view.parts c.loop-share.first c.join.new.seat c.in_ok-seat.field-0 c.in-Some.share c.loop-share.lists.items c.push.new.self.items (into_iter_items c.loop-share.share-iterator) (into_iter_items c.next.new.self)
    c.in_ok-seat.was st.0 c.in_ok-push.ensures.items c.join.ensures h.0 h.1 h.3 in
    let n = c.in_ok-push.ensures.len in let l = ap length st.0 in (t.0, t.1, omega (arith, h.2, n, l), t.2)
