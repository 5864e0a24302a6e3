-- Literals, their variables and their negations.
use Rattle.std.specs.Prelude.{◌≡◌, ◌+◌, ◌*◌, ◌<◌, ◌⊎◌, ℕ, if◌then◌else◌, ◌==◌, ◌%◌, ◌-◌}
use Rattle.std.proofs.Common.{refl, ap, inl, inr, zero, suc, ⊎_elim, arith}
use Rattle.std.proofs.lemmas.Bool.Decides.{nat_tests}
use Rattle.sw_refute.specs.declared.clauses.Lit.{Lit}
use Rattle.sw_refute.specs.Satisfaction.{variable, negation}
use Rattle.sw_refute.proofs.Literals.{same_literal}

number_even : (n : ℕ) → n % 2 ≡ 0 → (if n % 2 == 0 then n + 1 else n - 1) ≡ n + 1
number_even n e = grind (arith, nat_tests)

number_odd : (n : ℕ) → n % 2 ≡ 1 → (if n % 2 == 0 then n + 1 else n - 1) ≡ n - 1
number_odd n e = grind (arith, nat_tests)

pub parity : (n : ℕ) → (n % 2 ≡ 0) ⊎ (n % 2 ≡ 1)
parity n = cases (n % 2) (omega arith)
  where
    cases : (k : ℕ) → k < 2 → (k ≡ 0) ⊎ (k ≡ 1)
    cases zero h = inl refl
    cases (suc k) h = inr (omega arith)

-- the two ways in which a negation is numbered
pub negation_cases : (l : Lit) → ((l.0 % 2 ≡ 0) × ((negation l).0 ≡ l.0 + 1)) ⊎ ((l.0 % 2 ≡ 1) × ((negation l).0 + 1 ≡ l.0))
negation_cases l = ⊎_elim (λ e. inl (e, number_even l.0 e)) (λ e. let o : (negation l).0 ≡ l.0 - 1 = number_odd l.0 e in inr (e, omega arith)) (parity l.0)

pub variable_negation : (l : Lit) → variable (negation l) ≡ variable l
variable_negation l = ⊎_elim (λ (h : (l.0 % 2 ≡ 0) × ((negation l).0 ≡ l.0 + 1)). omega arith) (λ (h : (l.0 % 2 ≡ 1) × ((negation l).0 + 1 ≡ l.0)). omega arith) (negation_cases l)

pub negation_differs : (l : Lit) → l ≡ negation l → ⊥
negation_differs l e = let f : l.0 ≡ (negation l).0 = ap (λ (x : Lit). x.0) e in
    ⊎_elim (λ (h : (l.0 % 2 ≡ 0) × ((negation l).0 ≡ l.0 + 1)). omega arith) (λ (h : (l.0 % 2 ≡ 1) × ((negation l).0 + 1 ≡ l.0)). omega arith) (negation_cases l)

-- a literal and its negation are of a variable below this number, and so are their numbers
pub number_below : (n : ℕ) (l : Lit) → variable l < n → l.0 < 2 * n
number_below n l h = omega arith

pub negation_below : (n : ℕ) (l : Lit) → variable l < n → (negation l).0 < 2 * n
negation_below n l h = number_below n (negation l) (omega (arith, variable_negation l))

-- literals of one variable are equal or opposite
pub same_variable : (a b : Lit) → variable a ≡ variable b → (a ≡ b) ⊎ (a ≡ negation b)
same_variable a b e = go (parity a.0) (negation_cases b)
  where
    go : (a.0 % 2 ≡ 0) ⊎ (a.0 % 2 ≡ 1) → ((b.0 % 2 ≡ 0) × ((negation b).0 ≡ b.0 + 1)) ⊎ ((b.0 % 2 ≡ 1) × ((negation b).0 + 1 ≡ b.0)) → (a ≡ b) ⊎ (a ≡ negation b)
    go (inl x) (inl y) = inl (same_literal a b (omega (arith, e)))
    go (inl x) (inr y) = inr (same_literal a (negation b) (omega (arith, e)))
    go (inr x) (inl y) = inr (same_literal a (negation b) (omega (arith, e)))
    go (inr x) (inr y) = inl (same_literal a b (omega (arith, e)))
