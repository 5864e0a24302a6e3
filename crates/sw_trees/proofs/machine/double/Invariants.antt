-- A <-> goes where it went, and the whole is the same.
use Rattle.std.proofs.Common.{◌≡◌, length}
use Rattle.sw_trees.specs.Machine.{double, end}
use Rattle.sw_trees.proofs.machine.double.Given as goal

abbrev pub invariant-loop-left : goal.invariant-loop-left
invariant-loop-left l = record {
  goes : double l.stack l.left ≡ double l.fn.stack l.fn.operand;
  ends : end l.stack l.left ≡ end l.fn.stack l.fn.operand;
}

abbrev pub decreases-loop-left : goal.decreases-loop-left
decreases-loop-left l = length l.stack
