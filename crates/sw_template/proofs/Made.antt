-- The formula of a literal's number, and the variables of a run so far.
use Rattle.std.specs.Prelude.{◌⊎◌, ◌≡◌, ℕ, zero, suc, ◌+◌, ◌≤◌, ◌/◌, ◌%◌, Some, option_map, List, [], ◌∷◌, ◌++◌, map, length, slice_get, unwrap_or}
use Rattle.std.specs.List.{range_with_len}
use Rattle.std.specs.Fmt.{decimal}
use Rattle.std.proofs.Common.{arith, sym, ap, ◌∙◌, inl, inr}
use Rattle.std.proofs.lemmas.List.{map-append}
use Rattle.std.proofs.lemmas.Option.{slice_get_past}
use Rattle.sw_lists.proofs.Made.{range_push}
use Rattle.sw_logic.specs.declared.syntax.Binder.{Binder}
use Rattle.sw_logic.specs.declared.syntax.Formula.{Formula}
use Rattle.sw_logic.specs.declared.syntax.Formula.TheVariants.{False, Not}
use Rattle.sw_meaning.specs.Classes.{signed}
use Rattle.sw_template.proofs.Signed.{even_at, odd_at}

even_or_odd : (n : ℕ) → (n % 2 ≡ 0) ⊎ (n % 2 ≡ 1)
even_or_odd zero = inl (omega arith)
even_or_odd (suc n) = elim (even_or_odd n) [ inl e ↦ inr (omega (arith, e)) | inr e ↦ inl (omega (arith, e)) ]

pub past_at : (atoms : List Formula) (n : ℕ) → length atoms ≤ n / 2 → False ≡ unwrap_or (slice_get (signed atoms) n) False
past_at atoms n h = by_parity (even_or_odd n)
  where
    by_parity : (n % 2 ≡ 0) ⊎ (n % 2 ≡ 1) → False ≡ unwrap_or (slice_get (signed atoms) n) False
    by_parity (inl e) = sym (ap (λ o. unwrap_or o False) (even_at atoms n e ∙ slice_get_past atoms (n / 2) h))
    by_parity (inr e) = sym (ap (λ o. unwrap_or o False) (odd_at atoms n e ∙ ap (option_map Not) (slice_get_past atoms (n / 2) h)))

pub plain_at : (atoms : List Formula) (n : ℕ) (f : Formula) → slice_get atoms (n / 2) ≡ Some f → n % 2 ≡ 0 → f ≡ unwrap_or (slice_get (signed atoms) n) False
plain_at atoms n f e p = sym (ap (λ o. unwrap_or o False) (even_at atoms n p ∙ e))

pub negated_at : (atoms : List Formula) (n : ℕ) (f : Formula) → slice_get atoms (n / 2) ≡ Some f → n % 2 ≡ 1 → Not f ≡ unwrap_or (slice_get (signed atoms) n) False
negated_at atoms n f e p = sym (ap (λ o. unwrap_or o False) (odd_at atoms n p ∙ ap (option_map Not) e))

-- the first variables of a run
abbrev pub binders_to : ℕ → ℕ → ℕ → List Binder
binders_to before sort n = map (λ m. record { name = 95 ∷ decimal m; sort = sort }) (range_with_len (before + 1) n)

pub binders_more : (before sort n : ℕ) → binders_to before sort (n + 1) ≡ binders_to before sort n ++ record { name = 95 ∷ decimal (before + 1 + n); sort = sort } ∷ []
binders_more before sort n =
    ap (map (named sort)) (range_push (before + 1) n) ∙ map-append (named sort) (range_with_len (before + 1) n) ((before + 1 + n) ∷ [])
  where
    named : ℕ → ℕ → Binder
    named sort m = record { name = 95 ∷ decimal m; sort = sort }
