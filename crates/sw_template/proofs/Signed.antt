-- The formula of a literal's number: an atom, or its negation.
use Rattle.std.specs.Prelude.{◌⊎◌, ◌≡◌, ℕ, zero, suc, ◌≤◌, ◌/◌, ◌%◌, not, Bool, false, Some, None, option_map, List, [], ◌∷◌, length, slice_get, unwrap_or}
use Rattle.std.specs.List.{AllByRecursion}
use Rattle.std.proofs.Common.{refl, arith, subst, sym, ap, ◌∙◌, inl, inr}
use Rattle.std.proofs.lemmas.Option.{none-some, same_Some, slice_get_past}
use Rattle.sw_logic.specs.declared.syntax.Formula.{Formula}
use Rattle.sw_logic.specs.declared.syntax.Formula.TheVariants.{False, Not}
use Rattle.sw_logic.specs.Truth.{World, truth, binds}
use Rattle.sw_truth.proofs.Truths.{truth-False, truth-Not}
use Rattle.sw_meaning.specs.Classes.{signed}

two : (n : ℕ) → suc (suc n) / 2 ≡ suc (n / 2)
two n = omega arith

parity : (n : ℕ) → suc (suc n) % 2 ≡ n % 2
parity n = omega arith

half_zero : (zero / 2) ≡ 0
half_zero = omega arith

half_one : (1 / 2) ≡ 0
half_one = omega arith

pub even_at : (atoms : List Formula) (n : ℕ) → n % 2 ≡ 0 → slice_get (signed atoms) n ≡ slice_get atoms (n / 2)
even_at [] n e = refl
even_at (a ∷ atoms) zero e = ap (slice_get (a ∷ atoms)) (sym half_zero)
even_at (a ∷ atoms) (suc zero) e = absurd (omega (arith, e))
even_at (a ∷ atoms) (suc (suc n)) e = even_at atoms n (sym (parity n) ∙ e) ∙ ap (slice_get (a ∷ atoms)) (sym (two n))

pub odd_at : (atoms : List Formula) (n : ℕ) → n % 2 ≡ 1 → slice_get (signed atoms) n ≡ option_map Not (slice_get atoms (n / 2))
odd_at [] n e = refl
odd_at (a ∷ atoms) zero e = absurd (omega (arith, e))
odd_at (a ∷ atoms) (suc zero) e = ap (λ i. option_map Not (slice_get (a ∷ atoms) i)) (sym half_one)
odd_at (a ∷ atoms) (suc (suc n)) e = odd_at atoms n (sym (parity n) ∙ e) ∙ ap (λ i. option_map Not (slice_get (a ∷ atoms) i)) (sym (two n))

module _ (w : World) (env : List ℕ) (atoms : List Formula) where
  abbrev pub literal_true : ℕ → Bool
  literal_true n = truth w (unwrap_or (slice_get (signed atoms) n) False) env

  pub past : (n : ℕ) → length atoms ≤ n / 2 → false ≡ literal_true n
  past n h = by_parity (slice_get_past atoms (n / 2) h) (odd_or_even n)
    where
      odd_or_even : (n : ℕ) → (n % 2 ≡ 0) ⊎ (n % 2 ≡ 1)
      odd_or_even zero = inl (omega arith)
      odd_or_even (suc zero) = inr (omega arith)
      odd_or_even (suc (suc n)) = elim (odd_or_even n) [ inl e ↦ inl (parity n ∙ e) | inr e ↦ inr (parity n ∙ e) ]

      by_parity : slice_get atoms (n / 2) ≡ None → (n % 2 ≡ 0) ⊎ (n % 2 ≡ 1) → false ≡ literal_true n
      by_parity e (inl p) = sym (ap (λ o. truth w (unwrap_or o False) env) (even_at atoms n p ∙ e) ∙ truth-False w env)
      by_parity e (inr p) = sym (ap (λ o. truth w (unwrap_or o False) env) (odd_at atoms n p ∙ ap (option_map Not) e) ∙ truth-False w env)

  pub even_true : (n : ℕ) (f : Formula) → slice_get atoms (n / 2) ≡ Some f → n % 2 ≡ 0 → truth w f env ≡ literal_true n
  even_true n f e p = ap (λ o. truth w (unwrap_or o False) env) (sym e ∙ sym (even_at atoms n p))

  pub odd_true : (n : ℕ) (f : Formula) → slice_get atoms (n / 2) ≡ Some f → n % 2 ≡ 1 → not (truth w f env) ≡ literal_true n
  odd_true n f e p = sym (truth-Not w f env) ∙ ap (λ o. truth w (unwrap_or o False) env) (ap (option_map Not) (sym e) ∙ sym (odd_at atoms n p))

pub flat_at : (atoms : List Formula) (n : ℕ) (f : Formula) → AllByRecursion (λ f. binds f ≡ 0) atoms → slice_get atoms n ≡ Some f → binds f ≡ 0
flat_at [] n f a e = absurd (none-some f e)
flat_at (g ∷ atoms) zero f a e = subst (λ h. binds h ≡ 0) (same_Some g f e) a.0
flat_at (g ∷ atoms) (suc n) f a e = flat_at atoms n f a.1 e
