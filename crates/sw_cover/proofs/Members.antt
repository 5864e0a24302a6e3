-- Being an element of a list, and lists of which no two elements are equal.
use Rattle.std.specs.Prelude.{◌≡◌, ◌≢◌, ◌⊎◌, ℕ, zero, suc, ◌+◌, ◌<◌, Bool, true, false, cond, List, [], ◌∷◌, ◌++◌, map, slice_get, Some}
use Rattle.std.specs.List.{AllByRecursion, flat_map, filter, enumerate_from}
use Rattle.std.proofs.Common.{refl, arith, subst, sym, ap, ◌∙◌, inl, inr, add-zero}
use Rattle.std.proofs.lemmas.Bool.{false≢true}
use Rattle.std.proofs.lemmas.Option.{none-some, same_Some}
use Rattle.sw_meaning.specs.Classes.{tuples, pairs}
use Rattle.sw_cover.specs.Apart.{Apart}
use Rattle.sw_lists.proofs.Each.{each-append, each-map, each-any, each-weaker, each-both}

-- x is one of the list
abbrev pub Has : {X : Type 0} → X → List X → Type 0
Has x [] = ⊥
Has x (y ∷ ys) = (y ≡ x) ⊎ Has x ys

pub has-front : {X : Type 0} (x : X) (xs ys : List X) → Has x xs → Has x (xs ++ ys)
has-front x [] ys h = absurd h
has-front x (z ∷ xs) ys (inl e) = inl e
has-front x (z ∷ xs) ys (inr h) = inr (has-front x xs ys h)

pub has-back : {X : Type 0} (x : X) (xs ys : List X) → Has x ys → Has x (xs ++ ys)
has-back x [] ys h = h
has-back x (z ∷ xs) ys h = inr (has-back x xs ys h)

pub has-map : {X Y : Type 0} (f : X → Y) (x : X) (xs : List X) → Has x xs → Has (f x) (map f xs)
has-map f x [] h = absurd h
has-map f x (y ∷ ys) (inl e) = inl (ap f e)
has-map f x (y ∷ ys) (inr h) = inr (has-map f x ys h)

pub has-flat_map : {X Y : Type 0} (f : X → List Y) (x : X) (y : Y) (xs : List X) → Has x xs → Has y (f x) → Has y (flat_map f xs)
has-flat_map f x y [] h k = absurd h
has-flat_map f x y (z ∷ zs) (inl e) k = has-front y (f z) (flat_map f zs) (subst (λ w. Has y (f w)) (sym e) k)
has-flat_map f x y (z ∷ zs) (inr h) k = has-back y (f z) (flat_map f zs) (has-flat_map f x y zs h k)

kept : {X : Type 0} (b : Bool) (x y : X) (ys : List X) → b ≡ true → y ≡ x → Has x (cond b (y ∷ ys) ys)
kept true x y ys t e = inl e
kept false x y ys t e = absurd (false≢true t)

later : {X : Type 0} (b : Bool) (x y : X) (ys : List X) → Has x ys → Has x (cond b (y ∷ ys) ys)
later true x y ys h = inr h
later false x y ys h = h

pub has-filter : {X : Type 0} (test : X → Bool) (x : X) (xs : List X) → Has x xs → test x ≡ true → Has x (filter test xs)
has-filter test x [] h t = absurd h
has-filter test x (y ∷ ys) (inl e) t = kept (test y) x y (filter test ys) (ap test e ∙ t) e
has-filter test x (y ∷ ys) (inr h) t = later (test y) x y (filter test ys) (has-filter test x ys h t)

tested : {X : Type 0} (test : X → Bool) (b : Bool) (y : X) (ys : List X) → test y ≡ b → AllByRecursion (λ x. test x ≡ true) ys → AllByRecursion (λ x. test x ≡ true) (cond b (y ∷ ys) ys)
tested test true y ys e a = (e, a)
tested test false y ys e a = a

-- each element that a filter keeps passes its test
pub each-passes : {X : Type 0} (test : X → Bool) (xs : List X) → AllByRecursion (λ x. test x ≡ true) (filter test xs)
each-passes test [] = tt
each-passes test (y ∷ ys) = tested test (test y) y (filter test ys) refl (each-passes test ys)

pub has-enumerate : {X : Type 0} (at i : ℕ) (x : X) (xs : List X) → slice_get xs i ≡ Some x → Has (at + i, x) (enumerate_from at xs)
has-enumerate at i x [] e = absurd (none-some x e)
has-enumerate {X} at zero x (y ∷ ys) e = inl (let pair : ℕ → X → ℕ × X = λ a b. (a, b) in ap (λ a. pair a y) (sym (add-zero at)) ∙ ap (pair (at + 0)) (same_Some y x e))
has-enumerate {X} at (suc i) x (y ∷ ys) e = inr (subst (λ j. Has (j, x) (enumerate_from (at + 1) ys)) (omega arith) (has-enumerate (at + 1) i x ys e))

pub each-enumerate : {X : Type 0} (whole : List X) (at : ℕ) (xs : List X) → ((j : ℕ) → slice_get whole (at + j) ≡ slice_get xs j) → AllByRecursion (λ e. slice_get whole e.0 ≡ Some e.1) (enumerate_from at xs)
each-enumerate whole at [] same = tt
each-enumerate {X} whole at (x ∷ xs) same = (
  subst (λ i. slice_get whole i ≡ Some x) (add-zero at) (same 0),
  each-enumerate whole (at + 1) xs (λ j. subst (λ i. slice_get whole i ≡ slice_get xs j) (omega arith) (same (suc j))),
)

-- an element has a number
pub number_of : {X : Type 0} (x : X) (xs : List X) → Has x xs → (n : ℕ) × (slice_get xs n ≡ Some x)
number_of x [] h = absurd h
number_of x (y ∷ ys) (inl e) = (0, ap Some e)
number_of x (y ∷ ys) (inr h) = let rest = number_of x ys h in (suc rest.0, rest.1)

-- one element of each list
abbrev pub HasEach : {X : Type 0} → List X → List (List X) → Type 0
HasEach [] [] = Unit {0}
HasEach [] (ys ∷ yss) = ⊥
HasEach (x ∷ xs) [] = ⊥
HasEach (x ∷ xs) (ys ∷ yss) = Has x ys × HasEach xs yss

pub has-tuple : {X : Type 0} (xs : List X) (yss : List (List X)) → HasEach xs yss → Has xs (tuples yss)
has-tuple [] [] h = inl refl
has-tuple [] (ys ∷ yss) h = absurd h
has-tuple (x ∷ xs) [] h = absurd h
has-tuple (x ∷ xs) (ys ∷ yss) h =
    has-flat_map (λ y. map (λ tuple. y ∷ tuple) (tuples yss)) x (x ∷ xs) ys h.0 (has-map (λ tuple. x ∷ tuple) xs (tuples yss) (has-tuple xs yss h.1))

-- two different elements are a pair, one way round
pub has-pair : {X : Type 0} (x y : X) (zs : List X) → Has x zs → Has y zs → x ≢ y → Has {X = X × X} (x, y) (pairs zs) ⊎ Has {X = X × X} (y, x) (pairs zs)
has-pair x y [] h k n = absurd h
has-pair x y (z ∷ zs) (inl e) (inl d) n = absurd (n (sym e ∙ d))
has-pair {X} x y (z ∷ zs) (inl e) (inr k) n =
    inl (has-front (x, y) (map (λ w. (z, w)) zs) (pairs zs) (subst (λ v. Has {X = X × X} (v, y) (map (λ w. (z, w)) zs)) e (has-map (λ w. (z, w)) y zs k)))
has-pair {X} x y (z ∷ zs) (inr h) (inl d) n =
    inr (has-front (y, x) (map (λ w. (z, w)) zs) (pairs zs) (subst (λ v. Has {X = X × X} (v, x) (map (λ w. (z, w)) zs)) d (has-map (λ w. (z, w)) x zs h)))
has-pair {X} x y (z ∷ zs) (inr h) (inr k) n =
    elim (has-pair x y zs h k n) [
      | inl p ↦ inl (has-back (x, y) (map (λ w. (z, w)) zs) (pairs zs) p)
      | inr p ↦ inr (has-back (y, x) (map (λ w. (z, w)) zs) (pairs zs) p)
    ]

-- the elements of the two lists differ
pub each-from_all : {X : Type 0} (P Q : X → Type 0) (xs ys : List X) → ((x y : X) → P x → Q y → x ≢ y) → AllByRecursion P xs → AllByRecursion Q ys
    → Apart xs → Apart ys → Apart (xs ++ ys)
each-from_all P Q [] ys differ a b c d = d
each-from_all P Q (x ∷ xs) ys differ a b c d = (
  each-append (λ y. x ≢ y) xs ys c.0 (each-weaker Q (λ y. x ≢ y) (λ y q. differ x y a.0 q) ys b),
  each-from_all P Q xs ys differ a.1 b c.1 d,
)

-- what is apart by one key is apart by another that fixes it
pub apart-map : {X Y Z : Type 0} (f : X → Y) (g : X → Z) → ((x y : X) → g x ≡ g y → f x ≡ f y) → (xs : List X) → Apart (map f xs) → Apart (map g xs)
apart-map f g fixes [] a = tt
apart-map {X} {Y} {Z} f g fixes (x ∷ xs) a = (others xs a.0, apart-map f g fixes xs a.1)
  where
    others : (ys : List X) → AllByRecursion (λ y. f x ≢ y) (map f ys) → AllByRecursion (λ y. g x ≢ y) (map g ys)
    others [] a = tt
    others (y ∷ ys) a = (λ e. a.0 (fixes x y e), others ys a.1)

apart_kept : {X Y : Type 0} (f : X → Y) (b : Bool) (x : X) (xs : List X) → AllByRecursion (λ y. f x ≢ y) (map f xs) → Apart (map f xs) → Apart (map f (cond b (x ∷ xs) xs))
apart_kept f true x xs a c = (a, c)
apart_kept f false x xs a c = c

map_kept : {X Y : Type 0} (P : Y → Type 0) (f : X → Y) (b : Bool) (x : X) (xs : List X) → P (f x) → AllByRecursion P (map f xs) → AllByRecursion P (map f (cond b (x ∷ xs) xs))
map_kept P f true x xs p a = (p, a)
map_kept P f false x xs p a = a

pub each-map_filter : {X Y : Type 0} (P : Y → Type 0) (f : X → Y) (test : X → Bool) (xs : List X) → AllByRecursion P (map f xs) → AllByRecursion P (map f (filter test xs))
each-map_filter P f test [] a = tt
each-map_filter P f test (x ∷ xs) a = map_kept P f (test x) x (filter test xs) a.0 (each-map_filter P f test xs a.1)

pub apart-filter : {X Y : Type 0} (f : X → Y) (test : X → Bool) (xs : List X) → Apart (map f xs) → Apart (map f (filter test xs))
apart-filter f test [] a = tt
apart-filter f test (x ∷ xs) a = apart_kept f (test x) x (filter test xs) (each-map_filter (λ y. f x ≢ y) f test xs a.0) (apart-filter f test xs a.1)

numbers_from : {X : Type 0} (low at : ℕ) (xs : List X) → low < at → AllByRecursion (λ n. low ≢ n) (map (λ e. e.0) (enumerate_from at xs))
numbers_from low at [] h = tt
numbers_from low at (x ∷ xs) h = (omega arith, numbers_from low (at + 1) xs (omega arith))

pub apart-enumerate : {X : Type 0} (at : ℕ) (xs : List X) → Apart (map (λ e. e.0) (enumerate_from at xs))
apart-enumerate at [] = tt
apart-enumerate at (x ∷ xs) = (numbers_from at (at + 1) xs (omega arith), apart-enumerate (at + 1) xs)

-- lists made of elements with different keys, each apart in itself, are apart together where an element tells its key
module _ {X Y K : Type 0} (key : X → K) (R : X → Y → Type 0) (tells : (x x' : X) (y y' : Y) → key x ≢ key x' → R x y → R x' y' → y ≢ y') where
  abbrev Other : X → Y → Type 0
  Other x y = (x' : X) × ((key x ≢ key x') × R x' y)

  others : (f : X → List Y) (x : X) (xs : List X) → AllByRecursion (λ k. key x ≢ k) (map key xs) → AllByRecursion (λ x. AllByRecursion (R x) (f x)) xs → AllByRecursion (Other x) (flat_map f xs)
  others f x [] a r = tt
  others f x (z ∷ zs) a r = each-append (Other x) (f z) (flat_map f zs) (each-weaker (R z) (Other x) (λ y q. (z, (a.0, q))) (f z) r.0) (others f x zs a.1 r.1)

  pub apart-flat_map : (f : X → List Y) (xs : List X) → Apart (map key xs) → AllByRecursion (λ x. AllByRecursion (R x) (f x)) xs → AllByRecursion (λ x. Apart (f x)) xs → Apart (flat_map f xs)
  apart-flat_map f [] a r s = tt
  apart-flat_map f (x ∷ xs) a r s =
      each-from_all (R x) (Other x) (f x) (flat_map f xs) (λ y y' p q. tells x q.0 y y' q.1.0 p q.1.1) r.0 (others f x xs a.0 r.1) s.0 (apart-flat_map f xs a.1 r.1 s.1)

pub map_same : {X : Type 0} (xs : List X) → map (λ x. x) xs ≡ xs
map_same [] = refl
map_same (x ∷ xs) = ap (λ ys. x ∷ ys) (map_same xs)

-- the tuples of lists that are apart are apart
pub apart-tuples : {X : Type 0} (xss : List (List X)) → AllByRecursion Apart xss → Apart (tuples xss)
apart-tuples [] a = (tt, tt)
apart-tuples {X} (xs ∷ rest) a =
    apart-flat_map (λ x. x) (λ x tuple. (ys : List X) × (tuple ≡ x ∷ ys)) (λ x x' t t' n p q e. n (let f : x ∷ p.0 ≡ x' ∷ q.0 = sym p.1 ∙ (e ∙ q.1) in cc))
    (λ x. map (λ tuple. x ∷ tuple) (tuples rest)) xs
    (subst Apart (sym (map_same xs)) a.0)
    (each-any (λ x. AllByRecursion (λ tuple. (ys : List X) × (tuple ≡ x ∷ ys)) (map (λ tuple. x ∷ tuple) (tuples rest)))
    (λ x. each-map (λ tuple. (ys : List X) × (tuple ≡ x ∷ ys)) (λ tuple. x ∷ tuple) (tuples rest) (each-any (λ ys. (zs : List X) × (x ∷ ys ≡ x ∷ zs)) (λ ys. (ys, refl)) (tuples rest))) xs)
    (each-any (λ x. Apart (map (λ tuple. x ∷ tuple) (tuples rest)))
    (λ x. apart-map (λ t. t) (λ tuple. x ∷ tuple) (λ s t e. let f : x ∷ s ≡ x ∷ t = e in cc) (tuples rest) (subst Apart (sym (map_same (tuples rest))) (apart-tuples rest a.1))) xs)

-- the pairs of a list that is apart are of two different elements
pub each-pair : {X : Type 0} (P : X → Type 0) (xs : List X) → AllByRecursion P xs → Apart xs → AllByRecursion (λ e. P e.0 × (P e.1 × (e.0 ≢ e.1))) (pairs xs)
each-pair P [] a c = tt
each-pair P (x ∷ xs) a c =
    each-append (λ e. P e.0 × (P e.1 × (e.0 ≢ e.1))) (map (λ y. (x, y)) xs) (pairs xs)
    (each-map (λ e. P e.0 × (P e.1 × (e.0 ≢ e.1))) (λ y. (x, y)) xs (each-weaker (λ y. P y × (x ≢ y)) (λ y. P x × (P y × (x ≢ y))) (λ y h. (a.0, (h.0, h.1))) xs (each-both P (λ y. x ≢ y) xs a.1 c.0)))
    (each-pair P xs a.1 c.1)
