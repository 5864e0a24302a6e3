-- The examples of formulas and terms.
use Rattle.std.specs.Prelude.{◌≡◌, ℕ, ◌≤◌, [], ◌∷◌}
use Rattle.std.specs.Fmt.{decimal}
use Rattle.std.proofs.Common.{rules, refl, subst, sym, ap, arith, ◌∙◌, lit<}
use Rattle.std.proofs.lemmas.Fmt.{decimal_digit}
use Rattle.sw_logic.specs.declared.syntax.Term as term
use Rattle.sw_logic.specs.declared.syntax.Term.{Term}
use Rattle.sw_logic.specs.declared.syntax.Formula as formula
use Rattle.sw_logic.specs.declared.syntax.Formula.TheVariants.{Equal}
use Rattle.sw_meaning.specs.Space.{IsAtom, depth_of}
use Rattle.sw_meaning_examples.specs.Given.{zero_of, next_of}
use Rattle.sw_meaning_examples.specs.Examples.{FormulasAreWritten, AtomsAreBounded}

one_text : decimal 1 ≡ 49 ∷ []
one_text = decimal_digit 1 (lit< tt)

two_text : decimal 2 ≡ 50 ∷ []
two_text = decimal_digit 2 (lit< tt)

pub written : FormulasAreWritten
written = record {
  of_the_token = refl;
  token_text = search (rules, one_text, two_text, formula.the_lemmas, term.the_lemmas);
  token_sorted = search (rules, formula.the_lemmas, term.the_lemmas);
  some_text = search (rules, one_text, two_text, formula.the_lemmas, term.the_lemmas);
  values_sorted = search (rules, formula.the_lemmas, term.the_lemmas);
  deep_text = search (rules, formula.the_lemmas, term.the_lemmas);
  two_blocks = refl;
  terms_to_three = search (rules, formula.the_lemmas, term.the_lemmas);
  large_structure = refl;
}

shallow : IsAtom 0 (Equal (next_of zero_of) zero_of) → ⊥
shallow (IsAtom.holds symbol args e d) = cc
shallow (IsAtom.equal a b e apart d f) =
    let same : next_of zero_of ≡ a = cc in
    let deep : depth_of (next_of zero_of) ≡ 1 = search (rules, term.the_lemmas) in
    let none : 1 ≤ 0 = subst (λ n. n ≤ 0) (ap depth_of (sym same) ∙ deep) d in
    absurd (omega (arith, none))

apart : (depth : ℕ) (t : Term) → IsAtom depth (Equal t t) → ⊥
apart depth t (IsAtom.holds symbol args e x) = cc
apart depth t (IsAtom.equal a b e differ x y) =
    let left : t ≡ a = cc in
    let right : t ≡ b = cc in
    differ (sym left ∙ right)

pub bounded : AtomsAreBounded
bounded = record { shallow = shallow; apart = apart }
