-- Which lists of cubes are classes.
use Rattle.std.specs.Prelude.{◌≡◌, ℕ, zero, suc, ◌+◌, ◌-◌, ◌<◌, ◌≤◌, nat_le, Bool, true, false, cond, List, [], ◌∷◌, map, length, Contains}
use Rattle.std.specs.List.{AllByRecursion, range_with_len}
use Rattle.std.proofs.Common.{refl, arith, subst}
use Rattle.std.proofs.lemmas.Option.{slice_get_within, get_or_from_slice_get}
use Rattle.sw_meaning.specs.Classes.{bodies_from, classes_of}
use Rattle.sw_meaning.proofs.Bodies.{Rising, AllBelow}
use Rattle.sw_lists.proofs.Each.{each-append, each-map, each-weaker, each-both, each-flat_map, of_contained}
use Rattle.sw_cover.proofs.Members.{Has, has-flat_map, number_of}
use Rattle.sw_cover.proofs.Literals.{has_range}
use Rattle.sw_cover.proofs.Rising.{weight, IsBody, each_body, has_body}
use Rattle.sw_enumerate.specs.Walk.{size, AreSmall, weight_of, IsRising, IsRest}
use Rattle.sw_enumerate.proofs.Making.{each_in_range}
use Rattle.sw_enumerate.proofs.Parting.{weights_from, weight_same, small_at}

contains_of : {X : Type 0} (x : X) (xs : List X) → Has x xs → Contains xs x
contains_of x xs h = let place = number_of x xs h in (place.0, slice_get_within xs place.0 x place.1, get_or_from_slice_get xs place.0 x x place.1)

later : (a b : ℕ) (body : List ℕ) → a ≤ b → IsRising b body → IsRising a body
later a b [] h r = tt
later a b (c ∷ body) h r = (omega (arith, h, r.0), r.1)

-- each body rises
each_rises : (at : ℕ) (rest : List (List ℕ)) (n : ℕ) → AllByRecursion (IsRising at) (bodies_from at rest n)
each_rises at [] zero = (tt, tt)
each_rises at [] (suc n) = tt
each_rises at (cube ∷ rest) zero = (tt, tt)
each_rises at (cube ∷ rest) (suc n) =
    each-append (IsRising at) _ (bodies_from (at + 1) rest (suc n))
    (taken (nat_le (length cube) (suc n)) (each_rises (at + 1) rest (suc n - length cube)))
    (each-weaker (IsRising (at + 1)) (IsRising at) (λ body r. later at (at + 1) body (omega arith) r) (bodies_from (at + 1) rest (suc n)) (each_rises (at + 1) rest (suc n)))
  where
    taken : (b : Bool) → AllByRecursion (IsRising (at + 1)) (bodies_from (at + 1) rest (suc n - length cube)) → AllByRecursion (IsRising at) (cond b (map (λ body. at ∷ body) (bodies_from (at + 1) rest (suc n - length cube))) [])
    taken false a = tt
    taken true a = each-map (IsRising at) (λ body. at ∷ body) (bodies_from (at + 1) rest (suc n - length cube)) (each-weaker (IsRising (at + 1)) (λ body. IsRising at (at ∷ body)) (λ body r. (omega arith, r)) (bodies_from (at + 1) rest (suc n - length cube)) a)

rising_of : (a : ℕ) (body : List ℕ) → IsRising a body → Rising a body
rising_of a [] r = tt
rising_of a (c ∷ body) r = (r.0, rising_of (c + 1) body r.1)

module _ (cubes : List (List ℕ)) (small : AreSmall cubes) (most : ℕ) where
  -- a nonempty rising list of cubes with at most so many literals
  pub record IsList (body : List ℕ) : Type 0 where
    pub some : 0 < length body
    pub rest : IsRest cubes 0 0 most body

  nonempty : (body : List ℕ) → 0 < weight_of cubes body → 0 < length body
  nonempty [] h = absurd (omega (arith, h))
  nonempty (c ∷ body) h = omega arith

  of_class : AllByRecursion IsList (classes_of most cubes)
  of_class =
      each-flat_map IsList (bodies_from 0 cubes) (range_with_len 1 most)
      (each_in_range (λ n. AllByRecursion IsList (bodies_from 0 cubes n)) 1 most
      (λ n low high. each-weaker (λ body. IsBody (size cubes) (0 + length cubes) n body × IsRising 0 body) IsList (is_list n low high) (bodies_from 0 cubes n)
      (each-both (IsBody (size cubes) (0 + length cubes) n) (IsRising 0) (bodies_from 0 cubes n) (each_body (size cubes) 0 cubes n (weights_from cubes 0 cubes refl)) (each_rises 0 cubes n))))
    where
      is_list : (n : ℕ) → 1 ≤ n → n < 1 + most → (body : List ℕ) → IsBody (size cubes) (0 + length cubes) n body × IsRising 0 body → IsList body
      is_list n low high body h = record {
        some = nonempty body (omega (arith, low, h.0.weighs, weight_same cubes body));
        rest = record {
          rising = h.1;
          fits = record { below = subst (λ m. AllBelow m body) (let e : 0 + length cubes ≡ length cubes = omega arith in e) h.0.below; weighs = omega (arith, high, h.0.weighs, weight_same cubes body) };
          room = omega arith;
        };
      }

  heavy : (body : List ℕ) → 0 < length body → AllByRecursion (λ c. c < length cubes) body → 0 < weight_of cubes body
  heavy [] h b = absurd (omega (arith, h))
  heavy (c ∷ body) h b = let s : 0 < size cubes c = small_at cubes c small b.0 in omega (arith, s)

  pub class_is : (body : List ℕ) → Contains (classes_of most cubes) body → IsList body
  class_is body c = of_contained IsList (classes_of most cubes) body of_class c

  pub is_class : (body : List ℕ) → IsList body → Contains (classes_of most cubes) body
  is_class body l =
      let n : ℕ = weight (size cubes) body in
      let same : n ≡ weight_of cubes body = weight_same cubes body in
      let some : 0 < weight_of cubes body = heavy body l.some l.rest.fits.below in
      contains_of body (classes_of most cubes)
      (has-flat_map (bodies_from 0 cubes) n body (range_with_len 1 most) (has_range 1 most n (omega (arith, same, some)) (omega (arith, same, l.rest.fits.weighs)))
      (has_body (size cubes) 0 cubes n body (weights_from cubes 0 cubes refl) (λ c low high. small_at cubes c small (omega (arith, high))) (rising_of 0 body l.rest.rising)
      (subst (λ m. AllBelow m body) (let e : length cubes ≡ 0 + length cubes = omega arith in e) l.rest.fits.below) refl))

-- one cube further
pub step_on : (cubes : List (List ℕ)) (from before most c : ℕ) (rest : List ℕ) → IsRest cubes from before most (c ∷ rest) → (from ≤ c) × ((c < length cubes) × ((before + size cubes c ≤ most) × IsRest cubes (c + 1) (before + size cubes c) most rest))
step_on cubes from before most c rest r =
    (r.rising.0, (r.fits.below.0, (omega (arith, r.fits.weighs, r.room), record { rising = r.rising.1; fits = record { below = r.fits.below.1; weighs = omega (arith, r.fits.weighs, r.room) }; room = omega (arith, r.fits.weighs, r.room) })))

pub step_back : (cubes : List (List ℕ)) (from before most c : ℕ) (rest : List ℕ) → from ≤ c → c < length cubes → IsRest cubes (c + 1) (before + size cubes c) most rest → IsRest cubes from before most (c ∷ rest)
step_back cubes from before most c rest low high r =
    record { rising = (low, r.rising); fits = record { below = (high, r.fits.below); weighs = omega (arith, r.fits.weighs, r.room) }; room = omega (arith, r.room) }
