use Rattle.std.proofs.Common.{◌≡◌, take}
use Rattle.sw_template_text.specs.Texts.{value_of_digits}
use Rattle.sw_template_text.proofs.naming.value_of.Given as goal

abbrev pub invariant-loop-byte : goal.invariant-loop-byte
invariant-loop-byte l = l.value ≡ value_of_digits (take l.byte-index l.digits)
