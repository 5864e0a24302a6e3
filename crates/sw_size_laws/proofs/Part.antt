-- What holds of a list and its parts.
use Rattle.std.specs.Prelude.{◌≡◌, ℕ, ◌≤◌, List, [], ◌∷◌, ◌++◌, map, IsPermutation}
use Rattle.std.specs.List.{AllByRecursion, flat_map, sum_by}
use Rattle.std.proofs.Common.{arith, refl, sym, subst}
use Rattle.std.proofs.lemmas.List.{append_assoc, map-append}
use Rattle.std.proofs.lemmas.List.Elements.{recursion_from_All, All-from_recursion}
use Rattle.std.proofs.lemmas.List.Sorted.{IsPermutation-sym, IsPermutation-trans, IsPermutation-map, IsPermutation-append_comm, IsPermutation-append_left, IsPermutation-append_right, All-permutation, sum_by-IsPermutation}
use Rattle.std.proofs.lemmas.List.Sums.{sum_by-cons, sum_by-append}
use Rattle.sw_lists.proofs.Each.{each-front}
use Rattle.sw_size_laws.specs.Part.{IsPartOf}

-- a sum over a part is no larger
pub part_sum : {X : Type 0} (f : X → ℕ) (xs ys : List X) → IsPartOf xs ys → sum_by f xs ≤ sum_by f ys
part_sum f xs ys h =
    let all = sum_by-IsPermutation f (xs ++ h.rest) ys h.is in
    let both = sum_by-append f xs h.rest in
    omega arith

-- what holds of each element holds of each of a part
pub part_each : {X : Type 0} (P : X → Type 0) (xs ys : List X) → IsPartOf xs ys → AllByRecursion P ys → AllByRecursion P xs
part_each P xs ys h a =
    let all = All-permutation P ys (xs ++ h.rest) (IsPermutation-sym (xs ++ h.rest) ys h.is) (All-from_recursion P ys a) in
    each-front P xs h.rest (recursion_from_All P (xs ++ h.rest) all)

pub part_map : {X Y : Type 0} (f : X → Y) (xs ys : List X) → IsPartOf xs ys → IsPartOf (map f xs) (map f ys)
part_map f xs ys h = record {
  rest = map f h.rest;
  is = subst (λ zs. IsPermutation zs (map f ys)) (map-append f xs h.rest) (IsPermutation-map f (xs ++ h.rest) ys h.is);
}

-- a part behind the same elements
pub part_behind : {X : Type 0} (front xs ys : List X) → IsPartOf xs ys → IsPartOf (front ++ xs) (front ++ ys)
part_behind front xs ys h = record {
  rest = h.rest;
  is = subst (λ zs. IsPermutation zs (front ++ ys)) (sym (append_assoc front xs h.rest)) (IsPermutation-append_right front (xs ++ h.rest) ys h.is);
}

-- and before the same elements
pub part_before : {X : Type 0} (back xs ys : List X) → IsPartOf xs ys → IsPartOf (xs ++ back) (ys ++ back)
part_before back xs ys h =
    let turned = IsPermutation-append_right xs (back ++ h.rest) (h.rest ++ back) (IsPermutation-append_comm back h.rest) in
    let whole = IsPermutation-append_left back (xs ++ h.rest) ys h.is in
    record {
      rest = h.rest;
      is = subst (λ zs. IsPermutation zs (ys ++ back)) (sym (append_assoc xs back h.rest))
          (IsPermutation-trans (xs ++ (back ++ h.rest)) (xs ++ (h.rest ++ back)) (ys ++ back) turned (subst (λ zs. IsPermutation zs (ys ++ back)) (append_assoc xs h.rest back) whole));
    }

pub flat_sum : {X Y : Type 0} (g : Y → ℕ) (f : X → List Y) (xs : List X) → sum_by g (flat_map f xs) ≡ sum_by (λ x. sum_by g (f x)) xs
flat_sum g f [] = refl
flat_sum g f (x ∷ xs) =
    let rest = flat_sum g f xs in
    let a = sum_by-append g (f x) (flat_map f xs) in
    let b = sum_by-cons (λ y. sum_by g (f y)) x xs in
    omega arith

pub map_sum : {X Y : Type 0} (g : Y → ℕ) (f : X → Y) (xs : List X) → sum_by g (map f xs) ≡ sum_by (λ x. g (f x)) xs
map_sum g f [] = refl
map_sum g f (x ∷ xs) =
    let rest = map_sum g f xs in
    let a = sum_by-cons g (f x) (map f xs) in
    let b = sum_by-cons (λ y. g (f y)) x xs in
    omega arith

pub flat_part_sum : {X Y : Type 0} (g : Y → ℕ) (f : X → List Y) (xs ys : List X) → IsPartOf xs ys → sum_by g (flat_map f xs) ≤ sum_by g (flat_map f ys)
flat_part_sum g f xs ys h =
    let a = flat_sum g f xs in
    let b = flat_sum g f ys in
    let c = part_sum (λ x. sum_by g (f x)) xs ys h in
    omega arith
