-- The binders so far are written.
use Rattle.std.proofs.Common.{◌≡◌, ◌++◌, map, take}
use Rattle.std.specs.Prelude.{string_bytes, codes}
use Rattle.sw_logic.specs.Canonical.{joined, binder_text}
use Rattle.sw_print.proofs.formulas.push_binders.Given as goal

abbrev pub invariant-loop-i : goal.invariant-loop-i
invariant-loop-i l = string_bytes l.text ≡ string_bytes l.fn.text ++ joined (codes ", ") (map (binder_text l.signature) (take l.i l.binders))
