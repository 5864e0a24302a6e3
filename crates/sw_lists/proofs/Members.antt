-- Membership in lists.
use Rattle.std.specs.Prelude.{◌≡◌, ℕ, zero, suc, ◌⊎◌, List, [], ◌∷◌, map, slice_get, Some, All, Contains}
use Rattle.std.proofs.Common.{refl, sym, ap, ◌∙◌, subst, ⊎_elim, inl, inr, get_or, arith}
use Rattle.std.proofs.lemmas.List.Elements.{Contains-get_or}
use Rattle.std.proofs.lemmas.Option.{slice_get-get_or, get_or_from_slice_get, slice_get_within}

pub contains_head : {X : Type 0} (y : X) (xs : List X) → Contains (y ∷ xs) y
contains_head y xs = (0, omega arith, refl)

pub contains_tail : {X : Type 0} (y : X) (xs : List X) (x : X) → Contains xs x → Contains (y ∷ xs) x
contains_tail y xs x (k, h, e) = (suc k, omega arith, e)

pub contains_cons : {X : Type 0} (y : X) (xs : List X) (x : X) → Contains (y ∷ xs) x → (x ≡ y) ⊎ Contains xs x
contains_cons y xs x (zero, h, e) = inl (sym e)
contains_cons y xs x (suc k, h, e) = inr (k, omega arith, e)

pub contains_none : {X : Type 0} (x : X) → Contains [] x → ⊥
contains_none x (k, h, e) = omega arith

pub contains_map : {X Y : Type 0} (f : X → Y) (xs : List X) (x : X) → Contains xs x → Contains (map f xs) (f x)
contains_map f [] x c = absurd (contains_none x c)
contains_map f (y ∷ xs) x c = ⊎_elim (λ (i : x ≡ y). subst (λ z. Contains (f y ∷ map f xs) (f z)) (sym i) (contains_head (f y) (map f xs)))
    (λ d. contains_tail (f y) (map f xs) (f x) (contains_map f xs x d)) (contains_cons y xs x c)

-- an element of the mapped list comes of one of the list
pub contains_unmap : {X Y : Type 0} (f : X → Y) (xs : List X) (y : Y) → Contains (map f xs) y → (x : X) × Contains xs x × (f x ≡ y)
contains_unmap f [] y c = absurd (contains_none y c)
contains_unmap f (x ∷ xs) y c = ⊎_elim (λ (i : y ≡ f x). (x, contains_head x xs, sym i))
    (λ d. let r = contains_unmap f xs y d in (r.0, contains_tail x xs r.0 r.1, r.2)) (contains_cons (f x) (map f xs) y c)

-- membership, and the place of the element
pub contains_get : {X : Type 0} (xs : List X) (x : X) → Contains xs x → (k : ℕ) × (slice_get xs k ≡ Some x)
contains_get xs x c = (c.0, slice_get-get_or xs c.0 x c.1 ∙ ap (λ y. Some y) c.2)

pub get_contains : {X : Type 0} (xs : List X) (k : ℕ) (x : X) → slice_get xs k ≡ Some x → Contains xs x
get_contains xs k x e = (k, slice_get_within xs k x e, get_or_from_slice_get xs k x x e)

pub all_of : {X : Type 0} (P : X → Type 0) (xs : List X) → ((x : X) → Contains xs x → P x) → All P xs
all_of P xs f k d h = f (get_or xs k d) (Contains-get_or xs k d h)
