-- The fault of all values is that of those from here on, and they end before the text's largest place.
use Rattle.std.proofs.Common.{◌≡◌, ◌+◌, ◌^◌, ◌<◌, length, drop}
use Rattle.sw_models.specs.Text.{others_text}
use Rattle.sw_models.specs.Reading.{value_fault}
use Rattle.sw_models.proofs.reading.value_fault.Given as goal

abbrev pub invariant-loop-value : goal.invariant-loop-value
invariant-loop-value l =
    (value_fault l.size l.at (drop l.value-index l.values) ≡ value_fault l.size l.fn.at l.values)
    × (l.at + length (others_text (drop l.value-index l.values)) < 2 ^ 32)
