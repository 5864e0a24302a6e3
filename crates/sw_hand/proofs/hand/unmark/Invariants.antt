use Rattle.std.proofs.Common.{◌≡◌, [], take}
use Rattle.sw_hand.specs.Hands.{used_from}
use Rattle.sw_hand.proofs.hand.unmark.Given as goal

abbrev pub invariant-loop-mark : goal.invariant-loop-mark
invariant-loop-mark l = used_from 0 (take l.mark-index l.mark-items) ≡ []
