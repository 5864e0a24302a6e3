-- The bits so far are the bytes so far.
use Rattle.std.proofs.Common.{◌≡◌, map, take}
use Rattle.sw_models.specs.Text.{bit_digit}
use Rattle.sw_models.proofs.reading.read_bits.Given as goal

abbrev pub invariant-loop-byte : goal.invariant-loop-byte
invariant-loop-byte l = map bit_digit l.bits ≡ take l.byte-index l.body
