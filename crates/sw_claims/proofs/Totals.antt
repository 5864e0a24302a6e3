-- Sums over views, and how they change where one view changes.
use Rattle.std.proofs.Common.{◌≡◌, ℕ, zero, suc, ◌+◌, ◌≤◌, Bool, true, false, List, [], ◌∷◌, ◌++◌, set, refl, sym, ap, ◌∙◌, subst, ⊎_elim, ◌==◌, if◌then◌else◌, arith}
use mathlib.Core.Option.{some, some-injective, some-ne-none}
use lib.ListN.{get_elem?}
use Rattle.std.proofs.lemmas.Bool.Decides.{nat_tests}
use Rattle.sw_claims.specs.declared.rule.ClaimView.{ClaimView}
use Rattle.sw_claims.specs.ClaimsRule.{total, Each, times, once_below, weight, live_count, spent}
use Rattle.atomic_table.proofs.Lists.{at_set, at_snoc}

pub total-set : (f : ClaimView → ℕ) (l : List ClaimView) (i : ℕ) (v w : ClaimView) → get_elem? l i ≡ some v → total f (set l i w) + f v ≡ total f l + f w
total-set f [] i v w e = absurd (some-ne-none v (sym e))
total-set f (x ∷ xs) zero v w e = let is : f x ≡ f v = ap f (some-injective x v e) in omega arith
total-set f (x ∷ xs) (suc i) v w e = let r = total-set f xs i v w e in omega arith

pub total-same : (f : ClaimView → ℕ) (l : List ClaimView) (i : ℕ) (v w : ClaimView) → get_elem? l i ≡ some v → f w ≡ f v → total f (set l i w) ≡ total f l
total-same f l i v w e is = let r = total-set f l i v w e in omega arith

pub total-snoc : (f : ClaimView → ℕ) (l : List ClaimView) (w : ClaimView) → total f (l ++ w ∷ []) ≡ total f l + f w
total-snoc f [] w = omega arith
total-snoc f (x ∷ xs) w = let r = total-snoc f xs w in omega arith

pub part-le : (f : ClaimView → ℕ) (l : List ClaimView) (i : ℕ) (v : ClaimView) → get_elem? l i ≡ some v → f v ≤ total f l
part-le f [] i v e = absurd (some-ne-none v (sym e))
part-le f (x ∷ xs) zero v e = let is : f x ≡ f v = ap f (some-injective x v e) in omega arith
part-le f (x ∷ xs) (suc i) v e = let r = part-le f xs i v e in omega arith

pub times-append : (x : ℕ) (l m : List ℕ) → times x (l ++ m) ≡ times x l + times x m
times-append x [] m = omega arith
times-append x (y ∷ ys) m = let r = times-append x ys m in omega arith

pub once-more : (x n : ℕ) → once_below x (n + 1) ≡ once_below x n + (if n == x then 1 else 0)
once-more x n = grind (arith, nat_tests)

pub once-here : (n : ℕ) → once_below n n ≡ 0
once-here n = grind (arith, nat_tests)

not_live : (b : Bool) → weight b ≡ 0 → b ≡ false
not_live true e = absurd (omega arith)
not_live false e = refl

no_live : (f : ClaimView → ℕ) → f spent ≡ 0 → (l : List ClaimView) → Each (λ v. v.live ≡ false → v ≡ spent) l → live_count l ≡ 0 → total f l ≡ 0
no_live f z [] each e = refl
no_live f z (x ∷ xs) each e = let none : weight x.live ≡ 0 = omega arith in let is : f x ≡ 0 = ap f (each 0 x refl (not_live x.live none)) ∙ z in let r = no_live f z xs (λ i u p. each (suc i) u p) (omega arith) in omega arith

-- where one view alone is not spent, a sum is what that view gives
pub lone : (f : ClaimView → ℕ) → f spent ≡ 0 → (l : List ClaimView) (i : ℕ) (v : ClaimView) → get_elem? l i ≡ some v → v.live ≡ true → Each (λ v. v.live ≡ false → v ≡ spent) l → live_count l ≡ 1 → total f l ≡ f v
lone f z [] i v e alive each one = absurd (some-ne-none v (sym e))
lone f z (x ∷ xs) zero v e alive each one =
    let is : f x ≡ f v = ap f (some-injective x v e) in let w : weight x.live ≡ 1 = ap (λ (u : ClaimView). weight u.live) (some-injective x v e) ∙ ap weight alive in
    let r = no_live f z xs (λ i u p. each (suc i) u p) (omega arith) in omega arith
lone f z (x ∷ xs) (suc i) v e alive each one =
    let some_live : weight v.live ≤ live_count xs = part-le (λ u. weight u.live) xs i v e in let w : weight v.live ≡ 1 = ap weight alive in
    let none : weight x.live ≡ 0 = omega arith in let is : f x ≡ 0 = ap f (each 0 x refl (not_live x.live none)) ∙ z in
    let r = lone f z xs i v e alive (λ j u p. each (suc j) u p) (omega arith) in omega arith

-- what holds of each view after one has changed
pub each_set : (P Q : ClaimView → Type 0) (l : List ClaimView) (i : ℕ) (w : ClaimView) → Each P l → ((u : ClaimView) → P u → Q u) → Q w → Each Q (set l i w)
each_set P Q l i w each keeps here j u e = ⊎_elim (λ (t : (j ≡ i) × (w ≡ u)). subst Q t.1 here) (λ (t : (j ≡ i → ⊥) × (get_elem? l j ≡ some u)). keeps u (each j u t.1)) (at_set l i j w u e)

pub each_snoc : (P : ClaimView → Type 0) (l : List ClaimView) (w : ClaimView) → Each P l → P w → Each P (l ++ w ∷ [])
each_snoc P l w each here j u e = ⊎_elim (λ (t : get_elem? l j ≡ some u). each j u t) (λ (t : w ≡ u). subst P t here) (at_snoc l w u j e)
