-- Values at which a part is false, if there are any.
use Rattle.std.specs.Prelude.{◌≡◌, ℕ, zero, suc, ◌<◌, Bool, true, List, [], ◌∷◌, ◌++◌}
use Rattle.std.proofs.Common.{arith, refl, sym, ap, ◌∙◌, inl, inr}
use Rattle.std.proofs.lemmas.Bool.{cases_Bool, cases_lt, and_from, both_ways}
use Rattle.std.proofs.lemmas.List.{append-nil, append_assoc}
use Rattle.sw_logic.specs.declared.syntax.Binder.{Binder}
use Rattle.sw_logic.specs.Truth.{size_of, all_below, for_all, AreValues}
use Rattle.sw_truth.proofs.Inhabited.{AreSized}

none_below : (n : ℕ) (q : ℕ → Bool) → n ≡ 0 → all_below n q ≡ true
none_below zero q e = refl
none_below (suc n) q e = absurd (omega arith)

-- if the test passes there, it passes everywhere below
critical : (n : ℕ) (q : ℕ → Bool) → 0 < n → (v : ℕ) × (v < n) × (q v ≡ true → all_below n q ≡ true)
critical zero q h = absurd (omega arith)
critical (suc n) q h =
    elim (cases_Bool (q n)) [
      | inl t ↦ elim (cases_lt 0 n) [
        | inl some ↦ let c = critical n q some in (c.0, omega arith, λ e. and_from (all_below n q) (q n) (c.2 e) t)
        | inr past ↦ (n, omega arith, λ e. and_from (all_below n q) (q n) (none_below n q (omega arith)) t)
      ]
      | inr f ↦ (n, omega arith, λ e. absurd (both_ways (q n) f e))
    ]

-- if the part is true at these values, it is true at all
pub critical_values : (sizes : List ℕ) (bs : List Binder) (p : List ℕ → Bool) (env : List ℕ) → AreSized sizes bs
    → (ws : List ℕ) × AreValues sizes bs ws × (p (env ++ ws) ≡ true → for_all sizes bs p env ≡ true)
critical_values sizes [] p env h = ([], tt, λ e. ap p (sym (append-nil env)) ∙ e)
critical_values sizes (b ∷ bs) p env h =
    let first = critical (size_of sizes b.sort) (λ v. for_all sizes bs p (env ++ v ∷ [])) h.0 in
    let rest = critical_values sizes bs p (env ++ first.0 ∷ []) h.1 in
    (first.0 ∷ rest.0, (first.1, rest.1), λ e. first.2 (rest.2 (ap p (append_assoc env (first.0 ∷ []) rest.0) ∙ e)))
