-- The parts so far are written.
use Rattle.std.proofs.Common.{◌≡◌, ◌++◌, map, take}
use Rattle.std.specs.Prelude.{string_bytes}
use Rattle.sw_logic.specs.declared.syntax.Formula.{Formula}
use Rattle.sw_logic.specs.Canonical.{joined, shown}
use Rattle.sw_print.specs.Printing.{names_in}
use Rattle.sw_print.proofs.formulas.+formulas.Given as goal

abbrev pub invariant-push_operands-loop-i : goal.invariant-push_operands-loop-i
invariant-push_operands-loop-i l = string_bytes l.text ≡ string_bytes l.fn.text ++ joined l.sign (map (λ (f : Formula). (shown l.signature (names_in l.scope) f).operand) (take l.i l.parts))
