use Rattle.std.proofs.Common.{◌≡◌, ◌++◌}
use Rattle.sw_hand.proofs.hand.push_all.Given as goal

abbrev pub invariant-loop-token : goal.invariant-loop-token
invariant-loop-token l = l.tokens.items ≡ l.initial.tokens.items ++ l.yielded
