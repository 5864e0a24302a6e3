-- The digits so far are the number so far.
use Rattle.std.proofs.Common.{◌≡◌, take}
use Rattle.std.specs.Str.Parse.{AllDigits, digits_value}
use Rattle.sw_models.specs.Reading.{IsNumber}
use Rattle.sw_models.proofs.reading.number_of.Given as goal

abbrev pub invariant-loop-byte : goal.invariant-loop-byte
invariant-loop-byte l =
    AllDigits 10 (take l.byte-index l.digits) × (digits_value 10 (take l.byte-index l.digits) ≡ l.number) × IsNumber l.number
