-- Where an element of a list stands.
use Rattle.std.proofs.Common.{◌≡◌, ℕ, zero, suc, List, [], ◌∷◌, ◌++◌, length, Some, refl, ap, arith}
use Rattle.std.specs.Prelude.{slice_get, Contains}
use Rattle.std.proofs.lemmas.Option.{none-some, same_Some}

pub contains_at : {X : Type 0} (xs : List X) (k : ℕ) (x : X) → slice_get xs k ≡ Some x → Contains xs x
contains_at [] k x e = absurd (none-some x e)
contains_at (y ∷ xs) zero x e = (0, omega arith, same_Some y x e)
contains_at (y ∷ xs) (suc k) x e = let c = contains_at xs k x e in (suc c.0, omega arith, c.2)

-- an element of a list with one more
pub data Where {X : Type 0} (xs : List X) (x : X) (k : ℕ) (y : X) : Type 0 where
  among : slice_get xs k ≡ Some y → Where xs x k y
  last : k ≡ length xs → x ≡ y → Where xs x k y

pub where_is : {X : Type 0} (xs : List X) (x : X) (k : ℕ) (y : X) → slice_get (xs ++ x ∷ []) k ≡ Some y → Where xs x k y
where_is [] x zero y e = last refl (same_Some x y e)
where_is [] x (suc k) y e = absurd (none-some y e)
where_is (z ∷ xs) x zero y e = among e
where_is (z ∷ xs) x (suc k) y e = elim (where_is xs x k y e) [ among f ↦ among f | last f g ↦ last (ap suc f) g ]
