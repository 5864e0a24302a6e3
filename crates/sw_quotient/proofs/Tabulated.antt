-- Where the entry of a tuple stands in a table.
use Rattle.std.specs.Prelude.{◌≡◌, ℕ, zero, suc, ◌+◌, ◌*◌, ◌<◌, List, [], ◌∷◌, ◌++◌, length, Some, slice_get}
use Rattle.std.specs.List.{flat_map}
use Rattle.std.proofs.Common.{arith, refl, sym, subst, ap, ◌∙◌, get_or, length-append, zero-add, suc-add}
use Rattle.std.proofs.lemmas.Nat.{mul-add-lt}
use Rattle.std.proofs.Math.Nat.{mul_comm, mul_assoc}
use Rattle.sw_logic.specs.Truth.{size_of, place_from}
use Rattle.sw_logic.specs.Fits.{tuple_count}
use Rattle.sw_truth.specs.Models.{AreOfSorts}
use Rattle.sw_quotient.specs.Tables.{tabulate}

-- the place of a tuple is below the number of tuples
pub place_below : (sizes : List ℕ) (at n : ℕ) (sorts values : List ℕ) → AreOfSorts sizes sorts values → at < n → place_from sizes at sorts values < n * tuple_count sizes sorts
place_below sizes at n [] [] e h = omega arith
place_below sizes at n [] (value ∷ values) e h = absurd e
place_below sizes at n (sort ∷ sorts) [] e h = absurd e
place_below sizes at n (sort ∷ sorts) (value ∷ values) e h =
    let size = size_of sizes sort in
    let step = mul-add-lt at size value n h e.0 in
    let rest = place_below sizes (at * size + value) (size * n) sorts values e.1 step in
    let same : size * n * tuple_count sizes sorts ≡ n * (size * tuple_count sizes sorts) = rw (mul_comm size n) (mul_assoc n size (tuple_count sizes sorts)) in
    omega (arith, rest, same)

-- the places after those of so many tuples
pub place_after : (sizes : List ℕ) (at : ℕ) (sorts values : List ℕ) → AreOfSorts sizes sorts values → place_from sizes at sorts values ≡ at * tuple_count sizes sorts + place_from sizes 0 sorts values
place_after sizes at [] [] e = omega arith
place_after sizes at [] (value ∷ values) e = absurd e
place_after sizes at (sort ∷ sorts) [] e = absurd e
place_after sizes at (sort ∷ sorts) (value ∷ values) e =
    let size = size_of sizes sort in
    let m = tuple_count sizes sorts in
    let here = place_after sizes (at * size + value) sorts values e.1 in
    let first = place_after sizes (0 * size + value) sorts values e.1 in
    sums (place_from sizes (at * size + value) sorts values) (place_from sizes (0 * size + value) sorts values) at size value m (place_from sizes 0 sorts values) here first
  where
    sums : (p q at size value m r : ℕ) → p ≡ (at * size + value) * m + r → q ≡ (0 * size + value) * m + r → p ≡ at * (size * m) + q
    sums p q at size value m r e f = grind (arith, mul_assoc at size m)

-- an element of lists of one length, end to end
concat_length : {X : Type 0} (h : ℕ → List X) (m : ℕ) (xs : List ℕ) → ((x : ℕ) → length (h x) ≡ m) → length (flat_map h xs) ≡ length xs * m
concat_length h m [] e = omega arith
concat_length h m (x ∷ xs) e = let rest = concat_length h m xs e in let here = e x in omega (arith, length-append (h x) (flat_map h xs), rest, here)

append_first : {X : Type 0} (xs ys : List X) (r : ℕ) → r < length xs → slice_get (xs ++ ys) r ≡ slice_get xs r
append_first [] ys r h = absurd (omega arith)
append_first (x ∷ xs) ys zero h = refl
append_first (x ∷ xs) ys (suc r) h = append_first xs ys r (omega arith)

append_second : {X : Type 0} (xs ys : List X) (r : ℕ) → slice_get (xs ++ ys) (length xs + r) ≡ slice_get ys r
append_second [] ys r = rw zero-add refl
append_second (x ∷ xs) ys r = rw suc-add (append_second xs ys r)

concat_get : {X : Type 0} (h : ℕ → List X) (m : ℕ) (xs : List ℕ) (c r : ℕ) → ((x : ℕ) → length (h x) ≡ m) → c < length xs → r < m → slice_get (flat_map h xs) (c * m + r) ≡ slice_get (h (get_or xs c 0)) r
concat_get h m [] c r e l k = absurd (omega arith)
concat_get h m (x ∷ xs) zero r e l k =
    let low : r < length (h x) = omega (arith, e x) in
    let at : 0 * m + r ≡ r = omega arith in
    ap (slice_get (h x ++ flat_map h xs)) at ∙ append_first (h x) (flat_map h xs) r low
concat_get h m (x ∷ xs) (suc c) r e l k =
    let rest = concat_get h m xs c r e (omega arith) k in
    let at : suc c * m + r ≡ length (h x) + (c * m + r) = omega (arith, e x) in
    ap (slice_get (h x ++ flat_map h xs)) at ∙ append_second (h x) (flat_map h xs) (c * m + r) ∙ rest

module _ (sizes : List ℕ) (listed : ℕ → List ℕ) (same : (sort : ℕ) → size_of sizes sort ≡ length (listed sort)) where
  -- the listed terms at these places
  abbrev pub terms_of : List ℕ → List ℕ → List ℕ
  terms_of [] cs = []
  terms_of (sort ∷ sorts) [] = []
  terms_of (sort ∷ sorts) (c ∷ cs) = get_or (listed sort) c 0 ∷ terms_of sorts cs

  pub tabulate_length : {X : Type 0} (sorts : List ℕ) (said : List ℕ → X) → length (tabulate listed sorts said) ≡ tuple_count sizes sorts
  tabulate_length [] said = refl
  tabulate_length (sort ∷ sorts) said =
      concat_length (λ t. tabulate listed sorts (λ ts. said (t ∷ ts))) (tuple_count sizes sorts) (listed sort) (λ t. tabulate_length sorts (λ ts. said (t ∷ ts)))
      ∙ ap (λ k. k * tuple_count sizes sorts) (sym (same sort))

  pub tabulate_get : {X : Type 0} (sorts cs : List ℕ) (said : List ℕ → X) → AreOfSorts sizes sorts cs → slice_get (tabulate listed sorts said) (place_from sizes 0 sorts cs) ≡ Some (said (terms_of sorts cs))
  tabulate_get [] [] said h = refl
  tabulate_get [] (c ∷ cs) said h = absurd h
  tabulate_get (sort ∷ sorts) [] said h = absurd h
  tabulate_get (sort ∷ sorts) (c ∷ cs) said h =
      let m = tuple_count sizes sorts in
      let t = get_or (listed sort) c 0 in
      let rest = tabulate_get sorts cs (λ ts. said (t ∷ ts)) h.1 in
      let below : c < length (listed sort) = subst (λ k. c < k) (same sort) h.0 in
      let low : place_from sizes 0 sorts cs < m = omega (arith, place_below sizes 0 1 sorts cs h.1 (omega arith)) in
      let at : place_from sizes (0 * size_of sizes sort + c) sorts cs ≡ c * m + place_from sizes 0 sorts cs = ap (λ k. place_from sizes k sorts cs) (zero_times (size_of sizes sort) c) ∙ place_after sizes c sorts cs h.1 in
      ap (slice_get (tabulate listed (sort ∷ sorts) said)) at
      ∙ concat_get (λ u. tabulate listed sorts (λ ts. said (u ∷ ts))) m (listed sort) c (place_from sizes 0 sorts cs) (λ u. tabulate_length sorts (λ ts. said (u ∷ ts))) below low ∙ rest
    where
      zero_times : (size c : ℕ) → 0 * size + c ≡ c
      zero_times size c = omega arith
