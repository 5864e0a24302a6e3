-- What the code that makes Skolem forms computes.
use Rattle.std.specs.Prelude.{◌≡◌, ℕ, ◌+◌, Bool, ◌&&◌, List, ◌++◌, length, map}
use Rattle.std.specs.List.{list_any, filter, range_with_len, enumerate_from}
use Rattle.sw_logic.specs.declared.syntax.Binder.{Binder}
use Rattle.sw_logic.specs.declared.syntax.Symbol.{Symbol}
use Rattle.sw_logic.specs.declared.syntax.Term.{Term}
use Rattle.sw_logic.specs.declared.syntax.Term.TheVariants.{Variable}
use Rattle.sw_logic.specs.declared.syntax.Formula.{Formula}
use Rattle.sw_logic.specs.Terms.{has, occurs}
use Rattle.sw_skolem.specs.Skolem.{Form, Forms, forms, part_of, skolem_symbol, skolem_terms}

-- the Skolem form of a formula, and all symbols made by then
abbrev pub form_in : ℕ → Formula → List Term → List ℕ → List Symbol → Form
form_in base f = (part_of base f).form

-- the Skolem forms of formulas, from left to right
abbrev pub forms_in : ℕ → List Formula → List Term → List ℕ → List Symbol → Forms
forms_in base fs = forms (map (part_of base) fs)

-- a formula `g` is the Skolem form of `f`, and `after` are the symbols made by then
pub record IsForm (base : ℕ) (f : Formula) (terms : List Term) (sorts : List ℕ) (made : List Symbol) (g : Formula) (after : List Symbol) : Type 0 where
  pub formula : g ≡ (form_in base f terms sorts made).formula
  pub symbols : after ≡ (form_in base f terms sorts made).made

-- the same of lists of formulas
pub record AreForms (base : ℕ) (fs : List Formula) (terms : List Term) (sorts : List ℕ) (made : List Symbol) (gs : List Formula) (after : List Symbol) : Type 0 where
  pub formulas : gs ≡ (forms_in base fs terms sorts made).formulas
  pub symbols : after ≡ (forms_in base fs terms sorts made).made

-- whether a universal variable occurs in a formula, with the terms in the place of its variables
abbrev pub is_read : List Term → Formula → ℕ → Bool
is_read terms f u = list_any (λ t. occurs t.0 f && has u t.1) (enumerate_from 0 terms)

-- the universal variables, so many, that occur in a formula
abbrev pub universals_of : List Term → ℕ → Formula → List ℕ
universals_of terms count f = filter (is_read terms f) (range_with_len 0 count)

-- what stands below an existential quantifier: the terms of the variables in scope, and all symbols made by then
pub record IsReplaced (base : ℕ) (binders : List Binder) (f : Formula) (terms : List Term) (sorts : List ℕ) (made : List Symbol) (inner : List Term) (after : List Symbol) : Type 0 where
  pub terms_below : inner ≡ terms ++ skolem_terms (universals_of terms (length sorts) f) (base + length made) (length binders)
  pub symbols : after ≡ made ++ map (skolem_symbol sorts (universals_of terms (length sorts) f)) binders

abbrev pub variables_at : List ℕ → List Term
variables_at us = map Variable us
