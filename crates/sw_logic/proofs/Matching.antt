-- Sorts beside what was found of arguments.
use Rattle.std.proofs.Common.{◌≡◌, ℕ, zero, suc, ◌+◌, ◌<◌, ◌≤◌, false, List, [], ◌∷◌, ◌++◌, length, map, drop, Option, Some, None, get_or, drop-cons, refl, arith, add-one}
use Rattle.std.specs.Prelude.{nat_eq, slice_get, ◌&&◌}
use Rattle.std.specs.Option.{option_eq}
use Rattle.std.proofs.lemmas.Option.{slice_get_past, slice_get-map, slice_get-get_or}
use Rattle.std.proofs.lemmas.Bool.Decides.{nat_tests}
use Rattle.sw_logic.specs.Sorted.{same_sort, sorts_match}
use Rattle.sw_logic.proofs.Places.{drop-none, drop-got}

-- fewer sorts than arguments
pub sorts_match-short : (sorts : List ℕ) (found : List (Option ℕ)) (i : ℕ) → length sorts ≤ i → i < length found
    → false ≡ sorts_match (drop i sorts) (drop i found)
sorts_match-short sorts found i h below =
    rw (drop-none sorts i (slice_get_past sorts i h), drop-cons found i None below)

-- one more argument
pub sorts_match-more : (sorts : List ℕ) (found : List (Option ℕ)) (i sort : ℕ) (o : Option ℕ) → slice_get sorts i ≡ Some sort → slice_get found i ≡ Some o
    → sorts_match (drop i sorts) (drop i found) ≡ (same_sort (Some sort) o && sorts_match (drop (i + 1) sorts) (drop (i + 1) found))
sorts_match-more sorts found i sort o e f = rw (add-one, drop-got sorts i sort e, drop-got found i o f)

sorts_match-none : (sorts : List ℕ) (i : ℕ) → i ≤ length sorts → nat_eq (length sorts) i ≡ sorts_match (drop i sorts) []
sorts_match-none [] zero h = refl
sorts_match-none [] (suc i) h = absurd (omega arith)
sorts_match-none (x ∷ sorts) zero h = grind (arith, nat_tests)
sorts_match-none (x ∷ sorts) (suc i) h = let rest = sorts_match-none sorts i (omega arith) in grind (arith, nat_tests)

-- no more arguments
pub sorts_match-end : (sorts : List ℕ) (found : List (Option ℕ)) (i n : ℕ) → i ≡ length found → n ≡ length found → i ≤ length sorts
    → nat_eq (length sorts) n ≡ sorts_match (drop i sorts) (drop i found)
sorts_match-end sorts found i n e f h =
    let none : drop i found ≡ [] = drop-none found i (slice_get_past found i (omega arith)) in
    rw (none, f, ← e) (sorts_match-none sorts i h)

-- the sort of a binder, after those outside
pub slice_get-behind : {A B : Type 0} (f : A → B) (xs : List B) (ys : List A) (k : ℕ) (y : A) → k < length ys → ((d : A) → y ≡ get_or ys k d)
    → slice_get (xs ++ map f ys) (length xs + k) ≡ Some (f y)
slice_get-behind f [] ys k y h e =
    let at : 0 + k ≡ k = omega arith in rw (at, slice_get-map f ys k, slice_get-get_or ys k y h, ← e y)
slice_get-behind f (x ∷ xs) ys k y h e =
    let at : suc (length xs) + k ≡ suc (length xs + k) = omega arith in rw at (slice_get-behind f xs ys k y h e)

-- the test of the code
pub same_sort-option_eq : (sort : ℕ) (o : Option ℕ) → same_sort (Some sort) o ≡ option_eq nat_eq o (Some sort)
same_sort-option_eq sort None = refl
same_sort-option_eq sort (Some found) = grind (arith, nat_tests)
