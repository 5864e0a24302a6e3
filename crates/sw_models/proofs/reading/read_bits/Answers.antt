use Rattle.std.proofs.Common.{refl}
use Rattle.sw_models.proofs.Values.{no_bits}
use Rattle.sw_models.proofs.reading.read_bits.Goals as goal

pub returns-in_default : goal.returns-in_default
returns-in_default c = no_bits c.args.body.now c.loop-byte.byte-index _ c.loop-byte-test.true refl c.in_default.ensures
