-- What is left of the arguments adds to the place so far what all of them add to 0.
use Rattle.std.proofs.Common.{◌≡◌, ◌≤◌, min, drop}
use Rattle.sw_logic.specs.Truth.{world, place_from, values_of}
use Rattle.sw_logic.proofs.evaluate.World.+term.Given as goal

abbrev pub invariant-place-loop-i : goal.invariant-place-loop-i
invariant-place-loop-i l =
    let w = world l.self.signature.now l.self.before.now l.self.after.now in
    let sizes = l.self.before.now.sizes in
    (l.at ≤ 18446744073709551615)
    × (min 18446744073709551615 (place_from sizes l.at (drop l.i l.symbol.args) (drop l.i (values_of w l.env l.args)))
    ≡ min 18446744073709551615 (place_from sizes 0 l.symbol.args (values_of w l.env l.args)))
