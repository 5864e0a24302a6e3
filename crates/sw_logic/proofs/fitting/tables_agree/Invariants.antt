-- The tables so far agree, so all do exactly where the rest does.
use Rattle.std.proofs.Common.{◌↔◌, drop}
use Rattle.sw_logic.specs.Fits.{AgreeOn}
use Rattle.sw_logic.proofs.fitting.tables_agree.Given as goal

abbrev pub invariant-loop-i : goal.invariant-loop-i
invariant-loop-i l = AgreeOn (drop l.i l.symbols) (drop l.i l.before) (drop l.i l.after) ↔ AgreeOn l.symbols l.before l.after
