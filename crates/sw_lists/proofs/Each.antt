-- What holds of each element of a list, by recursion on the list.
use Rattle.std.specs.Prelude.{◌≡◌, ℕ, zero, suc, Bool, true, false, cond, List, [], ◌∷◌, ◌++◌, map, Some, slice_get, Contains}
use Rattle.std.specs.List.{AllByRecursion, flat_map, filter}
use Rattle.std.proofs.Common.{subst}
use Rattle.std.proofs.lemmas.List.Elements.{recursion_from_All, All-from_recursion, All-contains, Contains-get_or}
use Rattle.std.proofs.lemmas.Option.{none-some, same_Some}

pub each-append : {X : Type 0} (P : X → Type 0) (xs ys : List X) → AllByRecursion P xs → AllByRecursion P ys → AllByRecursion P (xs ++ ys)
each-append P [] ys a b = b
each-append P (x ∷ xs) ys a b = (a.0, each-append P xs ys a.1 b)

pub each-push : {X : Type 0} (P : X → Type 0) (xs : List X) (x : X) → AllByRecursion P xs → P x → AllByRecursion P (xs ++ x ∷ [])
each-push P xs x a p = each-append P xs (x ∷ []) a (p, tt)

pub each-front : {X : Type 0} (P : X → Type 0) (xs ys : List X) → AllByRecursion P (xs ++ ys) → AllByRecursion P xs
each-front P [] ys a = tt
each-front P (x ∷ xs) ys a = (a.0, each-front P xs ys a.1)

pub each-back : {X : Type 0} (P : X → Type 0) (xs ys : List X) → AllByRecursion P (xs ++ ys) → AllByRecursion P ys
each-back P [] ys a = a
each-back P (x ∷ xs) ys a = each-back P xs ys a.1

pub each-map : {X Y : Type 0} (P : Y → Type 0) (f : X → Y) (xs : List X) → AllByRecursion (λ x. P (f x)) xs → AllByRecursion P (map f xs)
each-map P f [] a = tt
each-map P f (x ∷ xs) a = (a.0, each-map P f xs a.1)

pub each-unmap : {X Y : Type 0} (P : Y → Type 0) (f : X → Y) (xs : List X) → AllByRecursion P (map f xs) → AllByRecursion (λ x. P (f x)) xs
each-unmap P f [] a = tt
each-unmap P f (x ∷ xs) a = (a.0, each-unmap P f xs a.1)

pub each-weaker : {X : Type 0} (P Q : X → Type 0) → ((x : X) → P x → Q x) → (xs : List X) → AllByRecursion P xs → AllByRecursion Q xs
each-weaker P Q w [] a = tt
each-weaker P Q w (x ∷ xs) a = (w x a.0, each-weaker P Q w xs a.1)

pub each-both : {X : Type 0} (P Q : X → Type 0) (xs : List X) → AllByRecursion P xs → AllByRecursion Q xs → AllByRecursion (λ x. P x × Q x) xs
each-both P Q [] a b = tt
each-both P Q (x ∷ xs) a b = ((a.0, b.0), each-both P Q xs a.1 b.1)

-- what holds of all things
pub each-any : {X : Type 0} (P : X → Type 0) → ((x : X) → P x) → (xs : List X) → AllByRecursion P xs
each-any P w [] = tt
each-any P w (x ∷ xs) = (w x, each-any P w xs)

-- the elements that are given with their proofs
pub each-pairs : {X : Type 0} (P : X → Type 0) (xs : List ((x : X) × P x)) → AllByRecursion P (map (λ e. e.0) xs)
each-pairs P [] = tt
each-pairs P (x ∷ xs) = (x.1, each-pairs P xs)

kept : {X : Type 0} (P : X → Type 0) (b : Bool) (x : X) (xs : List X) → P x → AllByRecursion P xs → AllByRecursion P (cond b (x ∷ xs) xs)
kept P true x xs p a = (p, a)
kept P false x xs p a = a

pub each-filter : {X : Type 0} (P : X → Type 0) (test : X → Bool) (xs : List X) → AllByRecursion P xs → AllByRecursion P (filter test xs)
each-filter P test [] a = tt
each-filter P test (x ∷ xs) a = kept P (test x) x (filter test xs) a.0 (each-filter P test xs a.1)

pub each-flat_map : {X Y : Type 0} (P : Y → Type 0) (f : X → List Y) (xs : List X) → AllByRecursion (λ x. AllByRecursion P (f x)) xs → AllByRecursion P (flat_map f xs)
each-flat_map P f [] a = tt
each-flat_map P f (x ∷ xs) a = each-append P (f x) (flat_map f xs) a.0 (each-flat_map P f xs a.1)

pub each-unflat_map : {X Y : Type 0} (P : Y → Type 0) (f : X → List Y) (xs : List X) → AllByRecursion P (flat_map f xs) → AllByRecursion (λ x. AllByRecursion P (f x)) xs
each-unflat_map P f [] a = tt
each-unflat_map P f (x ∷ xs) a = (each-front P (f x) (flat_map f xs) a, each-unflat_map P f xs (each-back P (f x) (flat_map f xs) a))

pub each-contained : {X : Type 0} (xs : List X) → AllByRecursion (Contains xs) xs
each-contained xs = recursion_from_All (Contains xs) xs (λ k d h. Contains-get_or xs k d h)

pub of_contained : {X : Type 0} (P : X → Type 0) (xs : List X) (x : X) → AllByRecursion P xs → Contains xs x → P x
of_contained P xs x a c = All-contains P xs x (All-from_recursion P xs a) c

pub each-at : {X : Type 0} (P : X → Type 0) (xs : List X) (i : ℕ) (x : X) → slice_get xs i ≡ Some x → AllByRecursion P xs → P x
each-at P [] i x e a = absurd (none-some x e)
each-at P (y ∷ xs) zero x e a = subst P (same_Some y x e) a.0
each-at P (y ∷ xs) (suc i) x e a = each-at P xs i x e a.1
