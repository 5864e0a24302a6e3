-- The terms so far are written.
use Rattle.std.proofs.Common.{◌≡◌, ◌++◌, map, take}
use Rattle.std.specs.Prelude.{string_bytes, codes}
use Rattle.sw_logic.specs.Canonical.{joined, term_text}
use Rattle.sw_print.specs.Printing.{names_in}
use Rattle.sw_print.proofs.formulas.+terms.Given as goal

abbrev pub invariant-push_terms-loop-i : goal.invariant-push_terms-loop-i
invariant-push_terms-loop-i l = string_bytes l.text ≡ string_bytes l.fn.text ++ joined (codes ", ") (map (term_text l.signature (names_in l.scope)) (take l.i l.terms))
