-- The place of a tuple, counted no further than a ceiling.
use Rattle.std.proofs.Common.{◌≡◌, ℕ, zero, suc, ◌+◌, ◌*◌, List, [], ◌∷◌, min, drop, Some, None, sym, ◌∙◌, ap, refl, arith, add-one, inl, inr}
use Rattle.std.specs.Prelude.{slice_get}
use Rattle.std.proofs.lemmas.Option.{none-some, same_Some}
use Rattle.std.proofs.lemmas.Bool.{cases_lt}
use Rattle.std.proofs.Math.Nat.{mul-zero, mul-suc}
use Rattle.sw_logic.specs.Truth.{size_of, place_from}

pub drop-got : {A : Type 0} (xs : List A) (i : ℕ) (x : A) → slice_get xs i ≡ Some x → drop i xs ≡ x ∷ drop (suc i) xs
drop-got [] i x e = absurd (none-some x e)
drop-got (y ∷ xs) zero x e = ap (λ z. z ∷ xs) (same_Some y x e)
drop-got (y ∷ xs) (suc i) x e = drop-got xs i x e

pub drop-none : {A : Type 0} (xs : List A) (i : ℕ) → slice_get xs i ≡ None → drop i xs ≡ []
drop-none [] zero e = refl
drop-none [] (suc i) e = refl
drop-none (y ∷ xs) zero e = absurd (none-some y (sym e))
drop-none (y ∷ xs) (suc i) e = drop-none xs i e

pub min-mul : (m a s v : ℕ) → min m (min m a * s + v) ≡ min m (a * s + v)
min-mul m a zero v = simp mul-zero
min-mul m a (suc s) v =
    elim (cases_lt m a) [
      | inl h ↦ let e : min m a ≡ m = omega arith in rw (e, mul-suc, mul-suc) (omega arith)
      | inr h ↦ let e : min m a ≡ a = omega arith in rw e
    ]

pub place-min : (sizes : List ℕ) (m at : ℕ) (sorts values : List ℕ)
    → min m (place_from sizes (min m at) sorts values) ≡ min m (place_from sizes at sorts values)
place-min sizes m at [] values = omega arith
place-min sizes m at (sort ∷ sorts) [] = omega arith
place-min sizes m at (sort ∷ sorts) (v ∷ values) =
    let n = size_of sizes sort in
    sym (place-min sizes m (min m at * n + v) sorts values)
    ∙ ap (λ a. min m (place_from sizes a sorts values)) (min-mul m at n v)
    ∙ place-min sizes m (at * n + v) sorts values

-- one more argument
pub place_more : (sizes sorts values : List ℕ) (m i at next sort v : ℕ) → slice_get sorts i ≡ Some sort → slice_get values i ≡ Some v
    → next ≡ min m (at * size_of sizes sort + v)
    → min m (place_from sizes next (drop (i + 1) sorts) (drop (i + 1) values)) ≡ min m (place_from sizes at (drop i sorts) (drop i values))
place_more sizes sorts values m i at next sort v e f g =
    rw (add-one, drop-got sorts i sort e, drop-got values i v f, g) (place-min sizes m (at * size_of sizes sort + v) (drop (suc i) sorts) (drop (suc i) values))

-- no more sorts, or no more values
pub place_end : (sizes sorts values : List ℕ) (at : ℕ) → sorts ≡ [] → place_from sizes at sorts values ≡ at
place_end sizes sorts values at e = rw e

pub place_stop : (sizes sorts values : List ℕ) (at : ℕ) → values ≡ [] → place_from sizes at sorts values ≡ at
place_stop sizes [] values at e = refl
place_stop sizes (sort ∷ sorts) values at e = rw e
