-- What was read of a formula and is printed reads back equal.
use Rattle.std.specs.Prelude.{ℕ, List, Ok}
use Rattle.sw_logic.specs.declared.syntax.Formula.{Formula}
use Rattle.sw_logic.specs.Canonical.{text_of, names_of}
use Rattle.sw_text.specs.Names.{Around, Scope}
use Rattle.sw_text.specs.Texts.{HasFormula}

-- the same names around another text
abbrev pub with_text : Around → List ℕ → Around
with_text a text = record { text = text; signature = a.signature; declared_too = a.declared_too; place = a.place }

-- the canonical text of a formula that a text has is a text that has this formula, by the same names
abbrev pub FormulasReadBack : Type 0
FormulasReadBack = (a : Around) (scope : Scope) (f : Formula) → HasFormula a scope (Ok f) → HasFormula (with_text a (text_of a.signature (names_of scope) f)) scope (Ok f)
