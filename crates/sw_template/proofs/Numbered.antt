-- What a walk over numbered elements has done, one element further.
use Rattle.std.specs.Prelude.{◌≡◌, ℕ, zero, suc, ◌+◌, ◌&&◌, Bool, true, false, cond, Some, List, [], ◌∷◌, ◌++◌, map, length, take, slice_get}
use Rattle.std.specs.List.{flat_map, filter, enumerate_from}
use Rattle.std.proofs.Common.{refl, arith, ap, ◌∙◌}
use Rattle.std.proofs.lemmas.Option.{none-some, same_Some}
use Rattle.std.proofs.lemmas.List.{map-append, append-nil}
use Rattle.std.proofs.lemmas.List.Elements.{filter-append}
use Rattle.std.proofs.lemmas.Grind.{flat_map-append}
use Rattle.sw_cover.specs.Counting.{total}
use Rattle.sw_template.proofs.Capping.{total_append}

pub took : {X : Type 0} (n : ℕ) (xs : List X) (x : X) → slice_get xs n ≡ Some x → take (n + 1) xs ≡ take n xs ++ x ∷ []
took n [] x e = absurd (none-some x e)
took zero (y ∷ xs) x e = ap (λ z. z ∷ []) (same_Some y x e)
took (suc n) (y ∷ xs) x e = let same : suc n + 1 ≡ suc (n + 1) = omega arith in ap (λ k. take k (y ∷ xs)) same ∙ ap (λ ys. y ∷ ys) (took n xs x e)

enumerated : {X : Type 0} (a : ℕ) (xs : List X) (x : X) → enumerate_from a (xs ++ x ∷ []) ≡ enumerate_from a xs ++ (a + length xs, x) ∷ []
enumerated a [] x = let same : a ≡ a + 0 = omega arith in ap (λ k. (k, x) ∷ []) same
enumerated a (y ∷ xs) x =
    let same : a + 1 + length xs ≡ a + suc (length xs) = omega arith in
    ap (λ ys. (a, y) ∷ ys) (enumerated (a + 1) xs x) ∙ ap (λ k. (a, y) ∷ (enumerate_from (a + 1) xs ++ (k, x) ∷ [])) same

took_length : {X : Type 0} (n : ℕ) (xs : List X) (x : X) → slice_get xs n ≡ Some x → length (take n xs) ≡ n
took_length n [] x e = absurd (none-some x e)
took_length zero (y ∷ xs) x e = refl
took_length (suc n) (y ∷ xs) x e = ap suc (took_length n xs x e)

pub numbered : {X : Type 0} (n : ℕ) (xs : List X) (x : X) → slice_get xs n ≡ Some x → enumerate_from 0 (take (n + 1) xs) ≡ enumerate_from 0 (take n xs) ++ (n, x) ∷ []
numbered n xs x e =
    let at : 0 + length (take n xs) ≡ n = omega (arith, took_length n xs x e) in
    ap (enumerate_from 0) (took n xs x e) ∙ (enumerated 0 (take n xs) x ∙ ap (λ k. enumerate_from 0 (take n xs) ++ (k, x) ∷ []) at)

-- the last element of a list, where it passes
pub last_kept : {X : Type 0} (p : X → Bool) (ys : List X) (y : X) → filter p (ys ++ y ∷ []) ≡ filter p ys ++ cond (p y) (y ∷ []) []
last_kept p ys y = filter-append p ys (y ∷ [])

both_kept : {X : Type 0} (p q : X → Bool) (ys : List X) (y : X) → filter q (filter p (ys ++ y ∷ [])) ≡ filter q (filter p ys) ++ cond (p y && q y) (y ∷ []) []
both_kept {X} p q ys y = ap (filter q) (last_kept p ys y) ∙ (filter-append q (filter p ys) (cond (p y) (y ∷ []) []) ∙ ap (λ zs. filter q (filter p ys) ++ zs) (same (p y)))
  where
    same : (b : Bool) → filter q (cond b (y ∷ []) []) ≡ cond (b && q y) (y ∷ []) []
    same true = refl
    same false = refl

pub flat_cond : {X Y : Type 0} (f : X → List Y) (zs : List X) (y : X) (b : Bool) → flat_map f (zs ++ cond b (y ∷ []) []) ≡ flat_map f zs ++ cond b (f y) []
flat_cond f zs y true = flat_map-append f zs (y ∷ []) ∙ ap (λ ws. flat_map f zs ++ ws) (append-nil (f y))
flat_cond f zs y false = flat_map-append f zs []

pub map_cond : {X Y : Type 0} (f : X → Y) (zs : List X) (y : X) (b : Bool) → map f (zs ++ cond b (y ∷ []) []) ≡ map f zs ++ cond b (f y ∷ []) []
map_cond f zs y true = map-append f zs (y ∷ [])
map_cond f zs y false = map-append f zs []

pub total_cond : {X : Type 0} (f : X → ℕ) (zs : List X) (y : X) (b : Bool) → total f (zs ++ cond b (y ∷ []) []) ≡ total f zs + cond b (f y) 0
total_cond f zs y true = total_append f zs (y ∷ []) ∙ omega arith
total_cond f zs y false = total_append f zs []

module _ {X : Type 0} (n : ℕ) (xs : List X) (x : X) (e : slice_get xs n ≡ Some x) (p q : ℕ × X → Bool) where
  abbrev upto : ℕ → List (ℕ × X)
  upto k = enumerate_from 0 (take k xs)

  pub flat_both : {Y : Type 0} (f : ℕ × X → List Y) → flat_map f (filter q (filter p (upto (n + 1)))) ≡ flat_map f (filter q (filter p (upto n))) ++ cond (p (n, x) && q (n, x)) (f (n, x)) []
  flat_both f = ap (λ ys. flat_map f (filter q (filter p ys))) (numbered n xs x e) ∙ (ap (flat_map f) (both_kept p q (upto n) (n, x)) ∙ flat_cond f (filter q (filter p (upto n))) (n, x) (p (n, x) && q (n, x)))

  pub flat_one : {Y : Type 0} (f : ℕ × X → List Y) → flat_map f (filter p (upto (n + 1))) ≡ flat_map f (filter p (upto n)) ++ cond (p (n, x)) (f (n, x)) []
  flat_one f = ap (λ ys. flat_map f (filter p ys)) (numbered n xs x e) ∙ (ap (flat_map f) (last_kept p (upto n) (n, x)) ∙ flat_cond f (filter p (upto n)) (n, x) (p (n, x)))

  pub map_both : {Y : Type 0} (f : ℕ × X → Y) → map f (filter q (filter p (upto (n + 1)))) ≡ map f (filter q (filter p (upto n))) ++ cond (p (n, x) && q (n, x)) (f (n, x) ∷ []) []
  map_both f = ap (λ ys. map f (filter q (filter p ys))) (numbered n xs x e) ∙ (ap (map f) (both_kept p q (upto n) (n, x)) ∙ map_cond f (filter q (filter p (upto n))) (n, x) (p (n, x) && q (n, x)))

  pub map_one : {Y : Type 0} (f : ℕ × X → Y) → map f (filter p (upto (n + 1))) ≡ map f (filter p (upto n)) ++ cond (p (n, x)) (f (n, x) ∷ []) []
  map_one f = ap (λ ys. map f (filter p ys)) (numbered n xs x e) ∙ (ap (map f) (last_kept p (upto n) (n, x)) ∙ map_cond f (filter p (upto n)) (n, x) (p (n, x)))

  pub total_both_kept : (f : ℕ × X → ℕ) → total f (filter q (filter p (upto (n + 1)))) ≡ total f (filter q (filter p (upto n))) + cond (p (n, x) && q (n, x)) (f (n, x)) 0
  total_both_kept f = ap (λ ys. total f (filter q (filter p ys))) (numbered n xs x e) ∙ (ap (total f) (both_kept p q (upto n) (n, x)) ∙ total_cond f (filter q (filter p (upto n))) (n, x) (p (n, x) && q (n, x)))

  pub total_one : (f : ℕ × X → ℕ) → total f (filter p (upto (n + 1))) ≡ total f (filter p (upto n)) + cond (p (n, x)) (f (n, x)) 0
  total_one f = ap (λ ys. total f (filter p ys)) (numbered n xs x e) ∙ (ap (total f) (last_kept p (upto n) (n, x)) ∙ total_cond f (filter p (upto n)) (n, x) (p (n, x)))
