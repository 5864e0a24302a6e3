-- The numbers so far are the words so far.
use Rattle.std.proofs.Common.{◌≡◌, length, map, take, All}
use Rattle.std.specs.Fmt.{decimal}
use Rattle.sw_models.specs.Reading.{IsNumber}
use Rattle.sw_models.proofs.Values.{words}
use Rattle.sw_models.proofs.reading.read_values.Given as goal

abbrev pub invariant-loop-word : goal.invariant-loop-word
invariant-loop-word l = (map decimal l.values ≡ take (length l.yielded) (words l.body)) × All IsNumber l.values
