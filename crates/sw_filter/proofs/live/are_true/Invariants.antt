-- The formulas so far are true, so all are exactly where the rest is.
use Rattle.std.proofs.Common.{◌↔◌, drop}
use Rattle.sw_logic.specs.Truth.{AreTrueIn}
use Rattle.sw_filter.proofs.live.are_true.Given as goal

abbrev pub invariant-loop-formula : goal.invariant-loop-formula
invariant-loop-formula l = AreTrueIn l.sig l.structure (drop l.formula-index l.formulas) ↔ AreTrueIn l.sig l.structure l.formulas
