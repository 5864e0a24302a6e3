use Rattle.std.proofs.Common.{◌≡◌, drop}
use Rattle.sw_logic.specs.Truth.{place_from}
use Rattle.sw_numbers.proofs.terms.place.Given as goal

-- from here on the place comes to that of the whole
abbrev pub invariant-loop-i : goal.invariant-loop-i
invariant-loop-i l = place_from l.sizes l.at (drop l.i l.sorts) (drop l.i l.numbers) ≡ place_from l.sizes 0 l.sorts l.numbers
