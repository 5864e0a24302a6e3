-- What is left of the tuple adds to the place so far what all of it adds to 0, and is in range where all is.
use Rattle.std.proofs.Common.{◌≡◌, ◌≤◌, min, drop}
use Rattle.sw_logic.specs.Truth.{place_from}
use Rattle.sw_models.specs.Building.{are_below}
use Rattle.sw_models.proofs.builder.place_of.Given as goal

abbrev pub invariant-loop-i : goal.invariant-loop-i
invariant-loop-i l =
    (l.at ≤ 18446744073709551615)
    × (min 18446744073709551615 (place_from l.sizes l.at (drop l.i l.sorts) (drop l.i l.tuple)) ≡ min 18446744073709551615 (place_from l.sizes 0 l.sorts l.tuple))
    × (are_below l.sizes (drop l.i l.sorts) (drop l.i l.tuple) ≡ are_below l.sizes l.sorts l.tuple)
