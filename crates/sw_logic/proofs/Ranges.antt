-- Quantifiers range over all choices of values.
use Rattle.std.proofs.Common.{◌≡◌, ℕ, zero, suc, ◌<◌, Bool, true, List, [], ◌∷◌, ◌++◌, sym, ap, ◌∙◌, refl, arith, inl, inr}
use Rattle.std.proofs.lemmas.Bool.{cases_lt, and_parts, and_from, or_cases, false≢true}
use Rattle.std.proofs.lemmas.List.{append-nil, append_assoc}
use Rattle.sw_logic.specs.declared.syntax.Binder.{Binder}
use Rattle.sw_logic.specs.Truth.{size_of, all_below, any_below, for_all, exists, AreValues}
use Rattle.sw_logic.proofs.Quantifiers.{any_below-true}

all_below-at : (n v : ℕ) (p : ℕ → Bool) → all_below n p ≡ true → v < n → p v ≡ true
all_below-at zero v p e h = absurd (omega arith)
all_below-at (suc n) v p e h =
    let parts = and_parts (all_below n p) (p n) e in
    elim (cases_lt v n) [
      | inl below ↦ all_below-at n v p parts.0 below
      | inr past ↦ let same : v ≡ n = omega arith in rw same parts.1
    ]

all_below-from : (n : ℕ) (p : ℕ → Bool) → ((v : ℕ) → v < n → p v ≡ true) → all_below n p ≡ true
all_below-from zero p f = refl
all_below-from (suc n) p f =
    and_from (all_below n p) (p n) (all_below-from n p (λ v h. f v (omega arith))) (f n (omega arith))

any_below-some : (n : ℕ) (p : ℕ → Bool) → any_below n p ≡ true → (v : ℕ) × (v < n) × (p v ≡ true)
any_below-some zero p e = absurd (false≢true e)
any_below-some (suc n) p e =
    elim (or_cases (any_below n p) (p n) e) [ inl h ↦ let s = any_below-some n p h in (s.0, omega arith, s.2) | inr h ↦ (n, omega arith, h) ]

-- one more value, at the end of those before it
shifted : (p : List ℕ → Bool) (env : List ℕ) (v : ℕ) (vs : List ℕ) → p ((env ++ v ∷ []) ++ vs) ≡ p (env ++ v ∷ vs)
shifted p env v vs = ap p (append_assoc env (v ∷ []) vs)

pub for_all-at : (sizes : List ℕ) (bs : List Binder) (p : List ℕ → Bool) (env vs : List ℕ) → for_all sizes bs p env ≡ true → AreValues sizes bs vs
    → p (env ++ vs) ≡ true
for_all-at sizes [] p env [] e h = rw append-nil e
for_all-at sizes [] p env (v ∷ vs) e h = absurd h
for_all-at sizes (b ∷ bs) p env [] e h = absurd h
for_all-at sizes (b ∷ bs) p env (v ∷ vs) e h =
    let here = all_below-at (size_of sizes b.sort) v (λ x. for_all sizes bs p (env ++ x ∷ [])) e h.0 in
    sym (shifted p env v vs) ∙ for_all-at sizes bs p (env ++ v ∷ []) vs here h.1

pub for_all-from : (sizes : List ℕ) (bs : List Binder) (p : List ℕ → Bool) (env : List ℕ)
    → ((vs : List ℕ) → AreValues sizes bs vs → p (env ++ vs) ≡ true) → for_all sizes bs p env ≡ true
for_all-from sizes [] p env f = ap p (sym (append-nil env)) ∙ f [] tt
for_all-from sizes (b ∷ bs) p env f =
    all_below-from (size_of sizes b.sort) (λ x. for_all sizes bs p (env ++ x ∷ []))
    (λ v h. for_all-from sizes bs p (env ++ v ∷ []) (λ vs hs. shifted p env v vs ∙ f (v ∷ vs) (h, hs)))

pub exists-some : (sizes : List ℕ) (bs : List Binder) (p : List ℕ → Bool) (env : List ℕ) → exists sizes bs p env ≡ true
    → (vs : List ℕ) × AreValues sizes bs vs × (p (env ++ vs) ≡ true)
exists-some sizes [] p env e = ([], tt, ap p (append-nil env) ∙ e)
exists-some sizes (b ∷ bs) p env e =
    let first = any_below-some (size_of sizes b.sort) (λ x. exists sizes bs p (env ++ x ∷ [])) e in
    let rest = exists-some sizes bs p (env ++ first.0 ∷ []) first.2 in
    (first.0 ∷ rest.0, (first.1, rest.1), sym (shifted p env first.0 rest.0) ∙ rest.2)

pub exists-at : (sizes : List ℕ) (bs : List Binder) (p : List ℕ → Bool) (env vs : List ℕ) → AreValues sizes bs vs → p (env ++ vs) ≡ true
    → exists sizes bs p env ≡ true
exists-at sizes [] p env [] h e = ap p (sym (append-nil env)) ∙ e
exists-at sizes [] p env (v ∷ vs) h e = absurd h
exists-at sizes (b ∷ bs) p env [] h e = absurd h
exists-at sizes (b ∷ bs) p env (v ∷ vs) h e =
    any_below-true (size_of sizes b.sort) v (λ x. exists sizes bs p (env ++ x ∷ [])) h.0
    (exists-at sizes bs p (env ++ v ∷ []) vs h.1 (shifted p env v vs ∙ e))
