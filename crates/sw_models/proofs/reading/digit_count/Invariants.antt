-- What is left and what was counted make all digits.
use Rattle.std.proofs.Common.{◌≡◌, ◌+◌, ◌^◌, ◌<◌, length}
use Rattle.std.specs.Fmt.{decimal}
use Rattle.sw_models.proofs.reading.digit_count.Given as goal

abbrev pub invariant-loop-left : goal.invariant-loop-left
invariant-loop-left l = (l.left < 2 ^ 32) × (l.count + length (decimal l.left) ≡ length (decimal l.number) + 1)

abbrev pub decreases-loop-left : goal.decreases-loop-left
decreases-loop-left l = l.left
