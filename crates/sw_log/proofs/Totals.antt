-- Sums over views, and how they change where one view changes.
use Rattle.std.proofs.Common.{◌≡◌, ◌≢◌, ℕ, zero, suc, ◌+◌, ◌≤◌, Bool, true, false, List, [], ◌∷◌, ◌++◌, set, refl, sym, ap, ◌∙◌, subst, ⊎_elim, ◌==◌, if◌then◌else◌, arith}
use mathlib.Core.Option.{some, some-injective, some-ne-none}
use lib.ListN.{get_elem?}
use Rattle.std.proofs.lemmas.Bool.Decides.{nat_tests}
use Rattle.sw_log.specs.declared.rule.LogView.{LogView}
use Rattle.sw_log.specs.LogRule.{total, Each, once_below, weight, live_count, spent}
use Rattle.atomic_table.proofs.Lists.{at_set, at_snoc, set_else}

pub total-set : (f : LogView → ℕ) (l : List LogView) (i : ℕ) (v w : LogView) → get_elem? l i ≡ some v → total f (set l i w) + f v ≡ total f l + f w
total-set f [] i v w e = absurd (some-ne-none v (sym e))
total-set f (x ∷ xs) zero v w e = let is : f x ≡ f v = ap f (some-injective x v e) in omega arith
total-set f (x ∷ xs) (suc i) v w e = let r = total-set f xs i v w e in omega arith

pub total-snoc : (f : LogView → ℕ) (l : List LogView) (w : LogView) → total f (l ++ w ∷ []) ≡ total f l + f w
total-snoc f [] w = omega arith
total-snoc f (x ∷ xs) w = let r = total-snoc f xs w in omega arith

pub part-le : (f : LogView → ℕ) (l : List LogView) (i : ℕ) (v : LogView) → get_elem? l i ≡ some v → f v ≤ total f l
part-le f [] i v e = absurd (some-ne-none v (sym e))
part-le f (x ∷ xs) zero v e = let is : f x ≡ f v = ap f (some-injective x v e) in omega arith
part-le f (x ∷ xs) (suc i) v e = let r = part-le f xs i v e in omega arith

pub two-le : (f : LogView → ℕ) (l : List LogView) (i j : ℕ) (v w : LogView) → f spent ≡ 0 → get_elem? l i ≡ some v → get_elem? l j ≡ some w → j ≢ i → f v + f w ≤ total f l
two-le f l i j v w z at there apart = let r = total-set f l i v spent at in let q = part-le f (set l i spent) j w (set_else l i j spent apart ∙ there) in omega (arith, r, q, z)

pub once-more : (x n : ℕ) → once_below x (n + 1) ≡ once_below x n + (if n == x then 1 else 0)
once-more x n = grind (arith, nat_tests)

not_live : (b : Bool) → weight b ≡ 0 → b ≡ false
not_live true e = absurd (omega arith)
not_live false e = refl

no_live : (f : LogView → ℕ) → f spent ≡ 0 → (l : List LogView) → Each (λ v. v.live ≡ false → v ≡ spent) l → live_count l ≡ 0 → total f l ≡ 0
no_live f z [] each e = refl
no_live f z (x ∷ xs) each e = let none : weight x.live ≡ 0 = omega arith in let is : f x ≡ 0 = ap f (each 0 x refl (not_live x.live none)) ∙ z in let r = no_live f z xs (λ i u p. each (suc i) u p) (omega arith) in omega arith

-- where one view alone is not spent, a sum is what that view gives
pub lone : (f : LogView → ℕ) → f spent ≡ 0 → (l : List LogView) (i : ℕ) (v : LogView) → get_elem? l i ≡ some v → v.live ≡ true → Each (λ v. v.live ≡ false → v ≡ spent) l → live_count l ≡ 1 → total f l ≡ f v
lone f z [] i v e alive each one = absurd (some-ne-none v (sym e))
lone f z (x ∷ xs) zero v e alive each one =
    let is : f x ≡ f v = ap f (some-injective x v e) in let w : weight x.live ≡ 1 = ap (λ (u : LogView). weight u.live) (some-injective x v e) ∙ ap weight alive in
    let r = no_live f z xs (λ i u p. each (suc i) u p) (omega arith) in omega arith
lone f z (x ∷ xs) (suc i) v e alive each one =
    let some_live : weight v.live ≤ live_count xs = part-le (λ u. weight u.live) xs i v e in let w : weight v.live ≡ 1 = ap weight alive in
    let none : weight x.live ≡ 0 = omega arith in let is : f x ≡ 0 = ap f (each 0 x refl (not_live x.live none)) ∙ z in
    let r = lone f z xs i v e alive (λ j u p. each (suc j) u p) (omega arith) in omega arith

-- what holds of each view after one has changed
pub each_set : (Q : LogView → Type 0) (l : List LogView) (i : ℕ) (w : LogView) → ((j : ℕ) (u : LogView) → j ≢ i → get_elem? l j ≡ some u → Q u) → Q w → Each Q (set l i w)
each_set Q l i w keeps here j u e = ⊎_elim (λ (t : (j ≡ i) × (w ≡ u)). subst Q t.1 here) (λ (t : (j ≢ i) × (get_elem? l j ≡ some u)). keeps j u t.0 t.1) (at_set l i j w u e)

pub each_snoc : (P : LogView → Type 0) (l : List LogView) (w : LogView) → Each P l → P w → Each P (l ++ w ∷ [])
each_snoc P l w each here j u e = ⊎_elim (λ (t : get_elem? l j ≡ some u). each j u t) (λ (t : w ≡ u). subst P t here) (at_snoc l w u j e)
