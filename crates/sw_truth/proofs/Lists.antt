-- Elements of lists, and lists that are made of others.
use Rattle.std.specs.Prelude.{◌≡◌, ℕ, zero, suc, ◌+◌, ◌<◌, Bool, true, false, List, [], ◌∷◌, ◌++◌, length, map, Some, Contains, slice_get, get_or}
use Rattle.std.specs.List.{list_all, list_any, filter, flat_map, enumerate_from, AllByRecursion}
use Rattle.std.proofs.Common.{arith, refl, sym, ap, subst, ◌∙◌, inl, inr}
use Rattle.std.proofs.lemmas.Bool.{and_parts, cond_both, false≢true}
use Rattle.std.proofs.lemmas.Option.{none-some, same_Some}
use Rattle.std.specs.Prelude.{◌||◌}
use Rattle.std.proofs.lemmas.Bool.{cases_Bool}
use Rattle.sw_lists.proofs.Each.{each-append}

-- membership, by recursion
pub data IsIn {X : Type 0} (x : X) : List X → Type 0 where
  here : (xs : List X) → IsIn x (x ∷ xs)
  there : (y : X) (xs : List X) → IsIn x xs → IsIn x (y ∷ xs)

pub in-left : {X : Type 0} (x : X) (xs ys : List X) → IsIn x xs → IsIn x (xs ++ ys)
in-left x xs ys (IsIn.here zs) = IsIn.here (zs ++ ys)
in-left x xs ys (IsIn.there y zs i) = IsIn.there y (zs ++ ys) (in-left x zs ys i)

pub in-right : {X : Type 0} (x : X) (xs ys : List X) → IsIn x ys → IsIn x (xs ++ ys)
in-right x [] ys i = i
in-right x (y ∷ xs) ys i = IsIn.there y (xs ++ ys) (in-right x xs ys i)

pub in-map : {X Y : Type 0} (f : X → Y) (x : X) (xs : List X) → IsIn x xs → IsIn (f x) (map f xs)
in-map f x xs (IsIn.here ys) = IsIn.here (map f ys)
in-map f x xs (IsIn.there y ys i) = IsIn.there (f y) (map f ys) (in-map f x ys i)

pub in-flat_map : {X Y : Type 0} (f : X → List Y) (x : X) (y : Y) (xs : List X) → IsIn x xs → IsIn y (f x) → IsIn y (flat_map f xs)
in-flat_map f x y xs (IsIn.here ys) i = in-left y (f x) (flat_map f ys) i
in-flat_map f x y xs (IsIn.there z ys j) i = in-right y (f z) (flat_map f ys) (in-flat_map f x y ys j i)

pub in-filter : {X : Type 0} (test : X → Bool) (x : X) (xs : List X) → IsIn x xs → test x ≡ true → IsIn x (filter test xs)
in-filter test x xs (IsIn.here ys) e = cond_both (test x) (x ∷ filter test ys) (filter test ys) (IsIn x) (λ t. IsIn.here (filter test ys)) (λ f. absurd (false≢true (sym f ∙ e)))
in-filter test x xs (IsIn.there y ys i) e =
    let rest = in-filter test x ys i e in
    cond_both (test y) (y ∷ filter test ys) (filter test ys) (IsIn x) (λ t. IsIn.there y (filter test ys) rest) (λ f. rest)

pub in-enumerate : {X : Type 0} (from : ℕ) (xs : List X) (k : ℕ) (x : X) → slice_get xs k ≡ Some x → IsIn (from + k, x) (enumerate_from from xs)
in-enumerate from [] k x e = absurd (none-some x e)
in-enumerate from (y ∷ xs) zero x e =
    let zeroth : from ≡ from + 0 = omega arith in
    subst (λ (p : _). IsIn p ((from, y) ∷ enumerate_from (from + 1) xs)) (cc (zeroth, same_Some y x e)) (IsIn.here (enumerate_from (from + 1) xs))
in-enumerate from (y ∷ xs) (suc k) x e =
    let next : from + 1 + k ≡ from + suc k = omega arith in
    IsIn.there (from, y) (enumerate_from (from + 1) xs) (subst (λ n. IsIn (n, x) (enumerate_from (from + 1) xs)) next (in-enumerate (from + 1) xs k x e))

pub in-contains : {X : Type 0} (x : X) (xs : List X) → IsIn x xs → Contains xs x
in-contains x xs (IsIn.here ys) = (0, omega arith, refl)
in-contains x xs (IsIn.there y ys i) = let rest = in-contains x ys i in (suc rest.0, omega (arith, rest.1), rest.2)

pub contains-at : {X : Type 0} (x : X) (xs : List X) (k : ℕ) → k < length xs → get_or xs k x ≡ x → IsIn x xs
contains-at x [] k h e = absurd (omega arith)
contains-at x (y ∷ xs) zero h e = subst (λ (z : _). IsIn x (z ∷ xs)) (sym e) (IsIn.here xs)
contains-at x (y ∷ xs) (suc k) h e = IsIn.there y xs (contains-at x xs k (omega arith) e)

pub contains-in : {X : Type 0} (x : X) (xs : List X) → Contains xs x → IsIn x xs
contains-in x xs h = contains-at x xs h.0 h.1 h.2

pub in-all : {X : Type 0} (P : X → Type 0) (x : X) (xs : List X) → AllByRecursion P xs → IsIn x xs → P x
in-all P x xs h (IsIn.here ys) = h.0
in-all P x xs h (IsIn.there y ys i) = in-all P x ys h.1 i

pub in-some : {X : Type 0} (x : X) (xs : List X) → IsIn x xs → 0 < length xs
in-some x xs (IsIn.here ys) = omega arith
in-some x xs (IsIn.there y ys i) = omega arith

-- what holds of all elements of lists that are made of others
pub all-map : {X Y : Type 0} (P : X → Type 0) (Q : Y → Type 0) (f : X → Y) → ((x : X) → P x → Q (f x)) → (xs : List X) → AllByRecursion P xs → AllByRecursion Q (map f xs)
all-map P Q f h [] a = tt
all-map P Q f h (x ∷ xs) a = (h x a.0, all-map P Q f h xs a.1)

pub all-flat_map : {X Y : Type 0} (P : X → Type 0) (Q : Y → Type 0) (f : X → List Y) → ((x : X) → P x → AllByRecursion Q (f x)) → (xs : List X) → AllByRecursion P xs → AllByRecursion Q (flat_map f xs)
all-flat_map P Q f h [] a = tt
all-flat_map P Q f h (x ∷ xs) a = each-append Q (f x) (flat_map f xs) (h x a.0) (all-flat_map P Q f h xs a.1)

pub all-filter : {X : Type 0} (P : X → Type 0) (test : X → Bool) (xs : List X) → AllByRecursion P xs → AllByRecursion (λ x. P x × (test x ≡ true)) (filter test xs)
all-filter P test [] a = tt
all-filter P test (x ∷ xs) a =
    let rest = all-filter P test xs a.1 in
    cond_both (test x) (x ∷ filter test xs) (filter test xs) (AllByRecursion (λ y. P y × (test y ≡ true))) (λ t. ((a.0, t), rest)) (λ f. rest)

pub all-enumerate : {X : Type 0} (P : (ℕ × X) → Type 0) (from : ℕ) (xs : List X) → ((k : ℕ) (x : X) → slice_get xs k ≡ Some x → P (from + k, x)) → AllByRecursion P (enumerate_from from xs)
all-enumerate P from [] h = tt
all-enumerate P from (x ∷ xs) h =
    let zeroth : from + 0 ≡ from = omega arith in (
      subst (λ n. P (n, x)) zeroth (h 0 x refl),
      all-enumerate P (from + 1) xs (λ k y e. let next : from + suc k ≡ from + 1 + k = omega arith in subst (λ n. P (n, y)) next (h (suc k) y e)),
    )

pub flat_map-same : {X Y : Type 0} (f g : X → List Y) (xs : List X) → AllByRecursion (λ x. f x ≡ g x) xs → flat_map f xs ≡ flat_map g xs
flat_map-same f g [] h = refl
flat_map-same f g (x ∷ xs) h = cc (h.0, flat_map-same f g xs h.1)

pub map-same : {X Y : Type 0} (f g : X → Y) (xs : List X) → AllByRecursion (λ x. f x ≡ g x) xs → map f xs ≡ map g xs
map-same f g [] h = refl
map-same f g (x ∷ xs) h = cc (h.0, map-same f g xs h.1)

pub no_length : {X : Type 0} (xs : List X) → length xs ≡ 0 → xs ≡ []
no_length [] e = refl
no_length (x ∷ xs) e = absurd (omega arith)
