use Rattle.std.proofs.Common.{arith}
use Rattle.sw_hand.proofs.Used.{unmarked_next}
use Rattle.sw_hand.proofs.hand.unmark.Goals as goal

pub loop-mark-preserved : goal.loop-mark-preserved
loop-mark-preserved c = unmarked_next c.loop-mark.mark-items c.loop-mark.mark-index (omega arith) c.loop-mark.invariant
