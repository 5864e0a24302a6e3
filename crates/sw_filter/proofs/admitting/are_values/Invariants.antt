-- The values so far are below the sizes of their sorts, so all are exactly where the rest is.
use Rattle.std.proofs.Common.{◌↔◌, drop}
use Rattle.sw_logic.specs.Truth.{AreValues}
use Rattle.sw_filter.proofs.admitting.are_values.Given as goal

abbrev pub invariant-loop-i : goal.invariant-loop-i
invariant-loop-i l = AreValues l.sizes (drop l.i l.binders) (drop l.i l.values) ↔ AreValues l.sizes l.binders l.values
