use Rattle.std.proofs.Common.{arith}
use Rattle.sw_models.proofs.Numbers.{one_digit_less, one_digit, ten_digits}
use Rattle.sw_models.proofs.reading.digit_count.Goals as goal

pub overflow_add-count : goal.overflow_add-count
overflow_add-count c = omega (arith, ten_digits c.args.number (omega arith), c.loop-left.invariant.1)

pub loop-left-preserved : goal.loop-left-preserved
loop-left-preserved c =
    (omega arith, omega (arith, one_digit_less c.loop-left.left c.loop-left-test.true c.loop-left.invariant.0, c.loop-left.invariant.1))

pub returns : goal.returns
returns c = omega (arith, one_digit c.loop-left.left c.loop-left-test.false, c.loop-left.invariant.1)
