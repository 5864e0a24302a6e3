-- What tests over lists say of the elements.
use Rattle.std.specs.Prelude.{◌≡◌, ℕ, ◌&&◌, ◌||◌, Bool, true, List, [], ◌∷◌, ◌++◌, map, Some, slice_get, Contains}
use Rattle.std.specs.List.{AllByRecursion, list_all, list_any}
use Rattle.std.proofs.Common.{refl, ap, ◌∙◌, subst, ⊎_elim}
use Rattle.std.proofs.lemmas.Bool.{or_cases, or_left, or_right, and_parts, and_from, false≢true}
use Rattle.std.proofs.lemmas.List.Folds.{list_all-append}
use Rattle.sw_lists.proofs.Members.{contains_head, contains_tail, contains_cons, contains_none, get_contains}

-- an element that passes
pub some_true : {X : Type 0} (p : X → Bool) (xs : List X) → list_any p xs ≡ true → (x : X) × Contains xs x × (p x ≡ true)
some_true p [] e = absurd (false≢true e)
some_true p (x ∷ xs) e = ⊎_elim (λ h. (x, contains_head x xs, h)) (λ r. let s = some_true p xs r in (s.0, contains_tail x xs s.0 s.1, s.2)) (or_cases (p x) (list_any p xs) e)

pub any_true : {X : Type 0} (p : X → Bool) (xs : List X) (x : X) → Contains xs x → p x ≡ true → list_any p xs ≡ true
any_true p [] x c t = absurd (contains_none x c)
any_true p (y ∷ xs) x c t =
    ⊎_elim (λ (i : x ≡ y). or_left (p y) (list_any p xs) (subst (λ z. p z ≡ true) i t)) (λ d. or_right (p y) (list_any p xs) (any_true p xs x d t)) (contains_cons y xs x c)

pub list_any-map : {X Y : Type 0} (p : Y → Bool) (f : X → Y) (xs : List X) → list_any p (map f xs) ≡ list_any (λ x. p (f x)) xs
list_any-map p f [] = refl
list_any-map p f (x ∷ xs) = ap (λ b. p (f x) || b) (list_any-map p f xs)

-- all pass, said element by element
pub each_true : {X : Type 0} (p : X → Bool) (xs : List X) → list_all p xs ≡ true → AllByRecursion (λ x. p x ≡ true) xs
each_true p [] e = tt
each_true p (x ∷ xs) e = let parts = and_parts (p x) (list_all p xs) e in (parts.0, each_true p xs parts.1)

pub all_true : {X : Type 0} (p : X → Bool) (xs : List X) → AllByRecursion (λ x. p x ≡ true) xs → list_all p xs ≡ true
all_true p [] a = refl
all_true p (x ∷ xs) a = and_from (p x) (list_all p xs) a.0 (all_true p xs a.1)

pub true_of : {X : Type 0} (p : X → Bool) (xs : List X) (x : X) → list_all p xs ≡ true → Contains xs x → p x ≡ true
true_of p [] x e c = absurd (contains_none x c)
true_of p (y ∷ xs) x e c = let parts = and_parts (p y) (list_all p xs) e in ⊎_elim (λ (i : x ≡ y). ap p i ∙ parts.0) (λ d. true_of p xs x parts.1 d) (contains_cons y xs x c)

pub true_at : {X : Type 0} (p : X → Bool) (xs : List X) (i : ℕ) (x : X) → list_all p xs ≡ true → slice_get xs i ≡ Some x → p x ≡ true
true_at p xs i x e is = true_of p xs x e (get_contains xs i x is)

pub all_from : {X : Type 0} (p : X → Bool) (xs : List X) → ((x : X) → Contains xs x → p x ≡ true) → list_all p xs ≡ true
all_from p [] f = refl
all_from p (x ∷ xs) f = and_from (p x) (list_all p xs) (f x (contains_head x xs)) (all_from p xs (λ y c. f y (contains_tail x xs y c)))

pub all_push : {X : Type 0} (p : X → Bool) (xs : List X) (x : X) → list_all p xs ≡ true → p x ≡ true → list_all p (xs ++ x ∷ []) ≡ true
all_push p xs x e h = list_all-append p xs (x ∷ []) ∙ and_from (list_all p xs) (p x && true) e (and_from (p x) true h refl)
