-- The tables so far fit, so all do where the rest does.
use Rattle.std.proofs.Common.{◌≡◌, ◌≤◌, length, drop}
use Rattle.sw_logic.specs.Fits.{tables_fit}
use Rattle.sw_logic.proofs.fitting.tables_are_of.Given as goal

abbrev pub invariant-loop-i : goal.invariant-loop-i
invariant-loop-i l = (l.i ≤ length l.tables) × (tables_fit l.sizes (drop l.i l.symbols) (drop l.i l.tables) ≡ tables_fit l.sizes l.symbols l.tables)
