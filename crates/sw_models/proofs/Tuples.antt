-- The places of tuples.
use Rattle.std.proofs.Common.{◌≡◌, ℕ, zero, suc, ◌+◌, ◌*◌, ◌<◌, true, nat_lt, List, [], ◌∷◌, length, drop, get_or, min, Some, refl, arith, ◌∙◌, ap, sym, drop-cons, add-one}
use Rattle.std.specs.Prelude.{◌&&◌, slice_get}
use Rattle.std.proofs.lemmas.Bool.{and_parts, false≢true}
use Rattle.std.proofs.lemmas.Bool.Decides.{nat_tests}
use Rattle.std.proofs.lemmas.Nat.{mul-add-lt, same_from_place}
use Rattle.std.proofs.Math.Nat.{mul_comm, mul_assoc}
use Rattle.sw_logic.specs.Truth.{size_of, place_from}
use Rattle.sw_logic.specs.Fits.{tuple_count}
use Rattle.sw_logic.proofs.Places.{place_more}
use Rattle.sw_models.specs.Building.{are_below}
use Rattle.sw_models.proofs.Complete.{below}

-- the place of a tuple is below the number of tuples
pub place_below : (sizes : List ℕ) (at n : ℕ) (sorts values : List ℕ) → are_below sizes sorts values ≡ true → at < n
    → place_from sizes at sorts values < n * tuple_count sizes sorts
place_below sizes at n [] [] e h = omega arith
place_below sizes at n [] (value ∷ values) e h = absurd (false≢true e)
place_below sizes at n (sort ∷ sorts) [] e h = absurd (false≢true e)
place_below sizes at n (sort ∷ sorts) (value ∷ values) e h =
    let parts = and_parts (nat_lt value (size_of sizes sort)) (are_below sizes sorts values) e in
    let size = size_of sizes sort in
    let step = mul-add-lt at size value n h (below value size parts.0) in
    let rest = place_below sizes (at * size + value) (size * n) sorts values parts.1 step in
    let same : size * n * tuple_count sizes sorts ≡ n * (size * tuple_count sizes sorts) = rw (mul_comm size n) (mul_assoc n size (tuple_count sizes sorts)) in
    omega (arith, rest, same)

-- two tuples of one place are one
pub place_once : (sizes : List ℕ) (at other : ℕ) (sorts values others : List ℕ) → are_below sizes sorts values ≡ true → are_below sizes sorts others ≡ true
    → place_from sizes at sorts values ≡ place_from sizes other sorts others → (at ≡ other) × (values ≡ others)
place_once sizes at other [] [] [] e f g = (g, refl)
place_once sizes at other [] [] (w ∷ others) e f g = absurd (false≢true f)
place_once sizes at other [] (v ∷ values) others e f g = absurd (false≢true e)
place_once sizes at other (sort ∷ sorts) [] others e f g = absurd (false≢true e)
place_once sizes at other (sort ∷ sorts) (v ∷ values) [] e f g = absurd (false≢true f)
place_once sizes at other (sort ∷ sorts) (v ∷ values) (w ∷ others) e f g =
    let size = size_of sizes sort in
    let parts = and_parts (nat_lt v size) (are_below sizes sorts values) e in
    let pieces = and_parts (nat_lt w size) (are_below sizes sorts others) f in
    let rest = place_once sizes (at * size + v) (other * size + w) sorts values others parts.1 pieces.1 g in
    let here = same_from_place at v other w size (below v size parts.0) (below w size pieces.0) rest.0 in
    let first : v ≡ w = here.1 in
    let later : values ≡ others = rest.1 in
    (here.0, cc)

at_get : (xs : List ℕ) (i : ℕ) → i < length xs → slice_get xs i ≡ Some (get_or xs i 0)
at_get [] i h = absurd (omega arith)
at_get (x ∷ xs) zero h = refl
at_get (x ∷ xs) (suc i) h = at_get xs i (omega arith)

-- one more value adds to the place
pub place_step : (sizes sorts tuple : List ℕ) (i at next : ℕ) → i < length tuple → length tuple ≡ length sorts → get_or tuple i 0 < size_of sizes (get_or sorts i 0)
    → next ≡ min 18446744073709551615 (at * size_of sizes (get_or sorts i 0) + get_or tuple i 0)
    → (min 18446744073709551615 (place_from sizes next (drop (i + 1) sorts) (drop (i + 1) tuple)) ≡ min 18446744073709551615 (place_from sizes at (drop i sorts) (drop i tuple)))
    × (are_below sizes (drop (i + 1) sorts) (drop (i + 1) tuple) ≡ are_below sizes (drop i sorts) (drop i tuple))
place_step sizes sorts tuple i at next h same small e =
    let sort = get_or sorts i 0 in
    let value = get_or tuple i 0 in
    let here : nat_lt value (size_of sizes sort) ≡ true = tests value (size_of sizes sort) small in
    let parts : are_below sizes (drop i sorts) (drop i tuple) ≡ (nat_lt value (size_of sizes sort) && are_below sizes (drop (suc i) sorts) (drop (suc i) tuple)) =
    rw (drop-cons sorts i 0 (omega arith), drop-cons tuple i 0 h) refl in (
      place_more sizes sorts tuple 18446744073709551615 i at next sort value (at_get sorts i (omega arith)) (at_get tuple i h) e,
      rw add-one (sym (parts ∙ ap (λ b. b && are_below sizes (drop (suc i) sorts) (drop (suc i) tuple)) here)),
    )
  where
    tests : (v s : ℕ) → v < s → nat_lt v s ≡ true
    tests v s h = grind (arith, nat_tests)
