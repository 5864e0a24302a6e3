-- One value, or one part, settles a quantifier or a list of parts.
use Rattle.std.proofs.Common.{◌≡◌, ℕ, zero, suc, ◌-◌, ◌<◌, ◌≤◌, Bool, true, false, List, [], ◌∷◌, ◌++◌, length, map, take, drop, get_or, refl, arith, inl, inr}
use Rattle.std.specs.List.{list_any}
use Rattle.std.proofs.lemmas.Bool.{cases_lt, and_right, or_right}
use Rattle.std.proofs.Math.Seq.{take-length}
use Rattle.sw_logic.specs.declared.syntax.Binder.{Binder}
use Rattle.sw_logic.specs.declared.syntax.Formula.{Formula}
use Rattle.sw_logic.specs.Truth.{size_of, all_below, any_below, for_all, exists, greatest, binds}

pub all_below-false : (n v : ℕ) (p : ℕ → Bool) → v < n → p v ≡ false → all_below n p ≡ false
all_below-false zero v p h e = absurd (omega arith)
all_below-false (suc n) v p h e =
    elim (cases_lt v n) [
      | inl below ↦ rw (all_below-false n v p below e)
      | inr past ↦ let same : v ≡ n = omega arith in rw (← same, e) (and_right (all_below v p) false refl)
    ]

pub any_below-true : (n v : ℕ) (p : ℕ → Bool) → v < n → p v ≡ true → any_below n p ≡ true
any_below-true zero v p h e = absurd (omega arith)
any_below-true (suc n) v p h e =
    elim (cases_lt v n) [
      | inl below ↦ rw (any_below-true n v p below e)
      | inr past ↦ let same : v ≡ n = omega arith in rw (← same, e) (or_right (any_below v p) true refl)
    ]

take-rest : {A : Type 0} (x : A) (xs : List A) → take (length (x ∷ xs) - 1) xs ≡ xs
take-rest x xs = let e : length (x ∷ xs) - 1 ≡ length xs = omega arith in rw e (take-length xs)

pub for_all-false : (sizes : List ℕ) (bs : List Binder) (p : List ℕ → Bool) (env : List ℕ) (b : Binder) (v n : ℕ) → 1 ≤ length bs → b ≡ get_or bs 0 b
    → n ≡ size_of sizes b.sort → v < n → for_all sizes (take (length bs - 1) (drop 1 bs)) p (env ++ v ∷ []) ≡ false → for_all sizes bs p env ≡ false
for_all-false sizes [] p env b v n some e f h g = absurd (omega arith)
for_all-false sizes (c ∷ bs) p env b v n some e f h g =
    let below : v < size_of sizes c.sort = rw (← e, ← f) h in
    all_below-false (size_of sizes c.sort) v (λ x. for_all sizes bs p (env ++ x ∷ [])) below (rw take-rest at g)

pub exists-true : (sizes : List ℕ) (bs : List Binder) (p : List ℕ → Bool) (env : List ℕ) (b : Binder) (v n : ℕ) → 1 ≤ length bs → b ≡ get_or bs 0 b
    → n ≡ size_of sizes b.sort → v < n → exists sizes (take (length bs - 1) (drop 1 bs)) p (env ++ v ∷ []) ≡ true → exists sizes bs p env ≡ true
exists-true sizes [] p env b v n some e f h g = absurd (omega arith)
exists-true sizes (c ∷ bs) p env b v n some e f h g =
    let below : v < size_of sizes c.sort = rw (← e, ← f) h in
    any_below-true (size_of sizes c.sort) v (λ x. exists sizes bs p (env ++ x ∷ [])) below (rw take-rest at g)

-- each part binds no more than the greatest
pub binds-part : (parts : List Formula) (i : ℕ) (p : Formula) → i < length parts → p ≡ get_or parts i p → binds p ≤ greatest (map binds parts)
binds-part [] i p h e = absurd (omega arith)
binds-part (q ∷ parts) zero p h e = rw e (omega arith)
binds-part (q ∷ parts) (suc i) p h e = let rest = binds-part parts i p (omega arith) e in omega arith

pub list_any-map : {X Y : Type 0} (p : X → Bool) (h : Y → X) (ys : List Y) → list_any p (map h ys) ≡ list_any (λ y. p (h y)) ys
list_any-map p h [] = refl
list_any-map p h (y ∷ ys) = rw (list_any-map p h ys)
