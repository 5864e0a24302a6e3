-- The bits so far are written.
use Rattle.std.proofs.Common.{◌≡◌, ◌++◌, map, take}
use Rattle.std.specs.Prelude.{string_bytes}
use Rattle.sw_models.specs.Text.{bit_digit}
use Rattle.sw_models.proofs.printing.push_bits.Given as goal

abbrev pub invariant-loop-bit : goal.invariant-loop-bit
invariant-loop-bit l = string_bytes l.text ≡ string_bytes l.fn.text ++ map bit_digit (take l.bit-index l.bits)
