-- What stands at a place of a list.
use Rattle.std.specs.Prelude.{◌≡◌, ℕ, zero, suc, ◌+◌, ◌<◌, ◌⊎◌, List, [], ◌∷◌, ◌++◌, length, take, drop, None, Some, slice_get}
use Rattle.std.proofs.Common.{refl, ap, ◌∙◌, ⊎_elim, inl, inr, arith}
use Rattle.std.proofs.lemmas.Option.{none-some, same_Some}

-- a place below the length has its element
pub get_some : {X : Type 0} (xs : List X) (i : ℕ) → i < length xs → (x : X) × (slice_get xs i ≡ Some x)
get_some [] i h = absurd (omega arith)
get_some (x ∷ xs) zero h = (x, refl)
get_some (x ∷ xs) (suc i) h = get_some xs i (omega arith)

pub get_take : {X : Type 0} (n : ℕ) (xs : List X) (i : ℕ) (x : X) → slice_get (take n xs) i ≡ Some x → (i < n) × (slice_get xs i ≡ Some x)
get_take zero xs i x e = absurd (cc)
get_take (suc n) [] i x e = absurd (cc)
get_take (suc n) (y ∷ xs) zero x e = (omega arith, e)
get_take (suc n) (y ∷ xs) (suc i) x e = let r = get_take n xs i x e in (omega arith, r.1)

pub get_front : {X : Type 0} (n : ℕ) (xs : List X) (i : ℕ) → i < n → slice_get (take n xs) i ≡ slice_get xs i
get_front zero xs i h = absurd (omega arith)
get_front (suc n) [] i h = refl
get_front (suc n) (x ∷ xs) zero h = refl
get_front (suc n) (x ∷ xs) (suc i) h = get_front n xs i (omega arith)

pub get_append_left : {X : Type 0} (xs ys : List X) (i : ℕ) (x : X) → slice_get xs i ≡ Some x → slice_get (xs ++ ys) i ≡ Some x
get_append_left [] ys i x e = absurd (none-some x e)
get_append_left (y ∷ xs) ys zero x e = e
get_append_left (y ∷ xs) ys (suc i) x e = get_append_left xs ys i x e

pub get_append_front : {X : Type 0} (xs ys : List X) (i : ℕ) → i < length xs → slice_get (xs ++ ys) i ≡ slice_get xs i
get_append_front [] ys i h = absurd (omega arith)
get_append_front (x ∷ xs) ys zero h = refl
get_append_front (x ∷ xs) ys (suc i) h = get_append_front xs ys i (omega arith)

pub get_append_right : {X : Type 0} (xs ys : List X) (i : ℕ) → slice_get (xs ++ ys) (length xs + i) ≡ slice_get ys i
get_append_right [] ys i = let e : 0 + i ≡ i = omega arith in ap (slice_get ys) e
get_append_right (x ∷ xs) ys i = let e : length (x ∷ xs) + i ≡ suc (length xs + i) = omega arith in ap (slice_get (x ∷ (xs ++ ys))) e ∙ get_append_right xs ys i

pub get_append_at : {X : Type 0} (xs : List X) (y : X) (ys : List X) → slice_get (xs ++ y ∷ ys) (length xs) ≡ Some y
get_append_at [] y ys = refl
get_append_at (x ∷ xs) y ys = get_append_at xs y ys

pub get_push_cases : {X : Type 0} (xs : List X) (y : X) (i : ℕ) (x : X) → slice_get (xs ++ y ∷ []) i ≡ Some x → (slice_get xs i ≡ Some x) ⊎ ((i ≡ length xs) × (x ≡ y))
get_push_cases [] y zero x e = inr (refl, cc)
get_push_cases [] y (suc i) x e = absurd (cc)
get_push_cases (z ∷ xs) y zero x e = inl e
get_push_cases (z ∷ xs) y (suc i) x e = ⊎_elim (λ a. inl a) (λ (b : (i ≡ length xs) × (x ≡ y)). inr (ap (λ n. suc n) b.0, b.1)) (get_push_cases xs y i x e)

pub drop-got : {X : Type 0} (xs : List X) (i : ℕ) (x : X) → slice_get xs i ≡ Some x → drop i xs ≡ x ∷ drop (suc i) xs
drop-got [] i x e = absurd (none-some x e)
drop-got (y ∷ xs) zero x e = ap (λ z. z ∷ xs) (same_Some y x e)
drop-got (y ∷ xs) (suc i) x e = drop-got xs i x e

pub drop-none : {X : Type 0} (xs : List X) (i : ℕ) → slice_get xs i ≡ None → drop i xs ≡ []
drop-none [] zero e = refl
drop-none [] (suc i) e = refl
drop-none (y ∷ xs) zero e = absurd (cc)
drop-none (y ∷ xs) (suc i) e = drop-none xs i e
