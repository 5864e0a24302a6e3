-- What is left to end ends in the same.
use Rattle.std.proofs.Common.{◌≡◌, length}
use Rattle.sw_trees.specs.Machine.{reduce}
use Rattle.sw_trees.proofs.frames.reduce.Given as goal

abbrev pub invariant-loop-part : goal.invariant-loop-part
invariant-loop-part l = reduce l.limit l.stack l.part ≡ reduce l.limit l.fn.stack l.fn.operand

abbrev pub decreases-loop-part : goal.decreases-loop-part
decreases-loop-part l = length l.stack
