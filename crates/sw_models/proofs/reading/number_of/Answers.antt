use Rattle.std.proofs.Common.{refl}
use Rattle.sw_models.proofs.Numbers.{too_large, one_more}
use Rattle.sw_models.proofs.reading.number_of.Goals as goal

pub returns-in_default : goal.returns-in_default
returns-in_default c =
    too_large c.args.digits.now c.loop-byte.byte-index c.loop-byte.number _ c.loop-byte-test.true refl c.loop-byte.invariant.1 c.in_default.ensures

pub loop-byte-preserved : goal.loop-byte-preserved
loop-byte-preserved c =
    one_more c.args.digits.now c.loop-byte.byte-index c.loop-byte.number _ c.in-Some.more c.loop-byte-test.true refl c.loop-byte.invariant c.in-Some.ensures
