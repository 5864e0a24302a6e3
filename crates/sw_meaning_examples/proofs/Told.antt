-- The examples of reports.
use Rattle.std.specs.Prelude.{◌≡◌, [], ◌∷◌}
use Rattle.std.specs.Fmt.{decimal}
use Rattle.std.proofs.Common.{rules, refl, lit<}
use Rattle.std.proofs.lemmas.Fmt.{decimal_digit}
use Rattle.sw_logic.specs.declared.syntax.Term as term
use Rattle.sw_logic.specs.declared.syntax.Formula as formula
use Rattle.sw_meaning_examples.specs.Examples.{WordsAreTold}

zero_text : decimal 0 ≡ 48 ∷ []
zero_text = decimal_digit 0 (lit< tt)

pub told : WordsAreTold
told = record {
  safe_with = rw zero_text (search (rules, formula.the_lemmas, term.the_lemmas));
  exhausted = rw zero_text refl;
  left_open = rw zero_text refl;
}
