-- The parts of the classes, one after the other, are the classes.
use Rattle.std.specs.Prelude.{◌≡◌, ℕ, zero, suc, ◌+◌, ◌-◌, ◌≤◌, ◌<◌, ◌==◌, nat_le, Bool, true, false, cond, List, [], ◌∷◌, ◌++◌, map, length, slice_get, unwrap_or}
use Rattle.std.specs.List.{AllByRecursion, flat_map, filter, range_with_len}
use Rattle.std.proofs.Common.{refl, arith, ap, ◌∙◌, append-nil, eq-eqb}
use Rattle.std.proofs.lemmas.Bool.{ne_eqb}
use Rattle.std.proofs.lemmas.Grind.{flat_map-append}
use Rattle.std.proofs.lemmas.List.Elements.{filter-append}
use Rattle.std.proofs.lemmas.List.Folds.{flat_map-map}
use Rattle.sw_meaning.specs.Classes.{bodies_from, part_of}
use Rattle.sw_lists.proofs.Each.{each-append, each-any, each-map, each-weaker}
use Rattle.sw_cover.specs.Laws.{PartsAreClasses}

-- a body whose first cube is at least this one
abbrev pub From : ℕ → List ℕ → Type 0
From at [] = ⊥
From at (c ∷ body) = at ≤ c

from_later : (at : ℕ) (body : List ℕ) → From (at + 1) body → From at body
from_later at [] h = h
from_later at (c ∷ body) h = omega (arith, h)

from_taken : (at : ℕ) (b : Bool) (tails : List (List ℕ)) → AllByRecursion (From at) (cond b (map (λ body. at ∷ body) tails) [])
from_taken at false tails = tt
from_taken at true tails = each-map (From at) (λ body. at ∷ body) tails (each-any (λ body. at ≤ at) (λ body. omega arith) tails)

pub each_from : (at : ℕ) (rest : List (List ℕ)) (n : ℕ) → AllByRecursion (From at) (bodies_from at rest (suc n))
each_from at [] n = tt
each_from at (cube ∷ rest) n =
    each-append (From at) _ (bodies_from (at + 1) rest (suc n)) (from_taken at (nat_le (length cube) (suc n)) (bodies_from (at + 1) rest (suc n - length cube)))
    (each-weaker (From (at + 1)) (From at) (from_later at) (bodies_from (at + 1) rest (suc n)) (each_from (at + 1) rest n))

-- whether this is a body's least cube
abbrev begins : ℕ → List ℕ → Bool
begins c body = unwrap_or (slice_get body 0) 0 == c

kept : {X : Type 0} (p : X → Bool) (xs : List X) → AllByRecursion (λ x. p x ≡ true) xs → filter p xs ≡ xs
kept p [] a = refl
kept p (x ∷ xs) a = ap (λ b. cond b (x ∷ filter p xs) (filter p xs)) a.0 ∙ ap (λ ys. x ∷ ys) (kept p xs a.1)

dropped : {X : Type 0} (p : X → Bool) (xs : List X) → AllByRecursion (λ x. p x ≡ false) xs → filter p xs ≡ []
dropped p [] a = refl
dropped p (x ∷ xs) a = ap (λ b. cond b (x ∷ filter p xs) (filter p xs)) a.0 ∙ dropped p xs a.1

same_over : {X : Type 0} (f g : ℕ → List X) (a n : ℕ) → ((c : ℕ) → a ≤ c → f c ≡ g c) → flat_map f (range_with_len a n) ≡ flat_map g (range_with_len a n)
same_over f g a zero h = refl
same_over f g a (suc n) h =
    ap (λ ys. ys ++ flat_map f (range_with_len (a + 1) n)) (h a (omega arith)) ∙ ap (λ ys. g a ++ ys) (same_over f g (a + 1) n (λ c le. h c (omega (arith, le))))

later_begin : (at c : ℕ) → c < at → (body : List ℕ) → From at body → begins c body ≡ false
later_begin at c h [] f = absurd f
later_begin at c h (d ∷ body) f = ne_eqb d c (λ e. omega (arith, h, f, e))

-- the bodies that have the first cube, and no others, begin with it
taken_begin : (at : ℕ) (b : Bool) (tails : List (List ℕ)) → filter (begins at) (cond b (map (λ body. at ∷ body) tails) []) ≡ cond b (map (λ body. at ∷ body) tails) []
taken_begin at false tails = refl
taken_begin at true tails = kept (begins at) (map (λ body. at ∷ body) tails) (each-map (λ body. begins at body ≡ true) (λ body. at ∷ body) tails (each-any (λ body. (at == at) ≡ true) (λ body. eq-eqb at at refl) tails))

taken_others : (at c : ℕ) (b : Bool) (tails : List (List ℕ)) → at < c → filter (begins c) (cond b (map (λ body. at ∷ body) tails) []) ≡ []
taken_others at c false tails h = refl
taken_others at c true tails h =
    dropped (begins c) (map (λ body. at ∷ body) tails) (each-map (λ body. begins c body ≡ false) (λ body. at ∷ body) tails (each-any (λ body. (at == c) ≡ false) (λ body. ne_eqb at c (λ e. omega (arith, h, e))) tails))

-- the bodies in the order of their least cubes are the bodies
pub by_least : (at : ℕ) (rest : List (List ℕ)) (n : ℕ) → flat_map (λ c. filter (begins c) (bodies_from at rest (suc n))) (range_with_len at (length rest)) ≡ bodies_from at rest (suc n)
by_least at [] n = refl
by_least at (cube ∷ rest) n =
    ap (λ ys. ys ++ flat_map (λ c. filter (begins c) (with_first ++ without)) (range_with_len (at + 1) (length rest)))
    (filter-append (begins at) with_first without
    ∙ (ap (λ ys. ys ++ filter (begins at) without) (taken_begin at (nat_le (length cube) (suc n)) tails)
    ∙ (ap (λ ys. with_first ++ ys) (dropped (begins at) without (each-weaker (From (at + 1)) (λ body. begins at body ≡ false) (later_begin (at + 1) at (omega arith)) without (each_from (at + 1) rest n)))
    ∙ append-nil with_first)))
    ∙ ap (λ ys. with_first ++ ys)
    (same_over (λ c. filter (begins c) (with_first ++ without)) (λ c. filter (begins c) without) (at + 1) (length rest)
    (λ c le. filter-append (begins c) with_first without ∙ ap (λ ys. ys ++ filter (begins c) without) (taken_others at c (nat_le (length cube) (suc n)) tails (omega (arith, le))))
    ∙ by_least (at + 1) rest n)
  where
    tails : List (List ℕ)
    tails = bodies_from (at + 1) rest (suc n - length cube)

    with_first : List (List ℕ)
    with_first = cond (nat_le (length cube) (suc n)) (map (λ body. at ∷ body) tails) []

    without : List (List ℕ)
    without = bodies_from (at + 1) rest (suc n)

pub parts_are_classes : PartsAreClasses
parts_are_classes most cubes = each_size 0 most
  where
    parts_at : ℕ → List (List (List ℕ))
    parts_at n = map (part_of cubes n) (range_with_len 0 (length cubes))

    size_by_least : (n : ℕ) → 0 < n → flat_map (part_of cubes n) (range_with_len 0 (length cubes)) ≡ bodies_from 0 cubes n
    size_by_least zero h = absurd (omega (arith, h))
    size_by_least (suc n) h = by_least 0 cubes n

    each_size : (a k : ℕ) → flat_map (λ part. part) (flat_map parts_at (range_with_len (a + 1) k)) ≡ flat_map (bodies_from 0 cubes) (range_with_len (a + 1) k)
    each_size a zero = refl
    each_size a (suc k) =
        flat_map-append (λ part. part) (parts_at (a + 1)) (flat_map parts_at (range_with_len (a + 1 + 1) k))
        ∙ (ap (λ ys. ys ++ flat_map (λ part. part) (flat_map parts_at (range_with_len (a + 1 + 1) k))) (flat_map-map (λ part. part) (part_of cubes (a + 1)) (range_with_len 0 (length cubes)) ∙ size_by_least (a + 1) (omega arith))
        ∙ ap (λ ys. bodies_from 0 cubes (a + 1) ++ ys) (each_size (a + 1) k))
