-- The first body, one cube on; and where the parts stand.
use Rattle.std.specs.Prelude.{◌≡◌, ℕ, zero, suc, ◌+◌, ◌-◌, ◌*◌, ◌<◌, ◌≤◌, ◌&&◌, ◌||◌, nat_le, Bool, true, false, cond, Option, Some, None, option_map, List, [], ◌∷◌, ◌++◌, map, length, drop, slice_get, unwrap_or}
use Rattle.std.specs.List.{flat_map, range_with_len}
use Rattle.std.specs.Option.{is_some}
use Rattle.std.proofs.Common.{refl, arith, sym, ap, ◌∙◌, length-append}
use Rattle.std.proofs.lemmas.Option.{slice_get-map}
use Rattle.sw_meaning.specs.Classes.{bodies_from, part_of, parts_of}
use Rattle.sw_lists.proofs.Places.{get_append_front, get_append_right}
use Rattle.std.proofs.lemmas.List.FromFn.{length-range_with_len}
use Rattle.std.proofs.Math.ListN.{drop_of_length-le}
use Rattle.std.proofs.lemmas.Bool.{le-leb, leb-true}
use Rattle.sw_cover.proofs.TermCounts.{length_map}
use Rattle.sw_enumerate.specs.Walk.{part_at, size, first}
use Rattle.sw_enumerate.proofs.Walking.{size_is}

pub record Here (cubes : List (List ℕ)) (at : ℕ) : Type 0 where
  pub cube : List ℕ
  pub is : slice_get cubes at ≡ Some cube
  pub drops : drop at cubes ≡ cube ∷ drop (at + 1) cubes

pub here : (cubes : List (List ℕ)) (at : ℕ) → at < length cubes → Here cubes at
here [] at h = absurd (omega (arith, h))
here (c ∷ cubes) zero h = record { cube = c; is = refl; drops = refl }
here (c ∷ cubes) (suc at) h =
    let rest : Here cubes at = here cubes at (omega arith) in
    record { cube = rest.cube; is = rest.is; drops = rest.drops ∙ ap (λ n. rest.cube ∷ drop n (c ∷ cubes)) (let e : suc (at + 1) ≡ suc at + 1 = omega arith in e) }

-- the first body takes the cube where it can, and else is the first of the later cubes
abbrev pub first_by : ℕ → Bool → Option (List ℕ) → Option (List ℕ) → Option (List ℕ)
first_by at true (Some body) other = Some (at ∷ body)
first_by at true None other = other
first_by at false found other = other

first_taken : (at : ℕ) (b : Bool) (bodies others : List (List ℕ)) → slice_get (cond b (map (λ body. at ∷ body) bodies) [] ++ others) 0 ≡ first_by at b (slice_get bodies 0) (slice_get others 0)
first_taken at false bodies others = refl
first_taken at true [] others = refl
first_taken at true (body ∷ bodies) others = refl

pub first_step : (cubes : List (List ℕ)) (at n : ℕ) → at < length cubes → first cubes at (suc n) ≡ first_by at (nat_le (size cubes at) (suc n)) (first cubes (at + 1) (suc n - size cubes at)) (first cubes (at + 1) (suc n))
first_step cubes at n h =
    let i : Here cubes at = here cubes at h in
    ap (λ rest. slice_get (bodies_from at rest (suc n)) 0) i.drops
    ∙ (first_taken at (nat_le (length i.cube) (suc n)) (bodies_from (at + 1) (drop (at + 1) cubes) (suc n - length i.cube)) (bodies_from (at + 1) (drop (at + 1) cubes) (suc n))
    ∙ ap (λ k. first_by at (nat_le k (suc n)) (first cubes (at + 1) (suc n - k)) (first cubes (at + 1) (suc n))) (sym (size_is cubes at i.cube i.is)))

pub first_zero : (cubes : List (List ℕ)) (at : ℕ) → first cubes at 0 ≡ Some []
first_zero cubes at = by_rest (drop at cubes)
  where
    by_rest : (rest : List (List ℕ)) → slice_get (bodies_from at rest 0) 0 ≡ Some []
    by_rest [] = refl
    by_rest (cube ∷ rest) = refl

pub first_end : (cubes : List (List ℕ)) (at n : ℕ) → length cubes ≤ at → first cubes at (suc n) ≡ None
first_end cubes at n h = ap (λ rest. slice_get (bodies_from at rest (suc n)) 0) (drop_of_length-le cubes h)

-- what the first body is where it takes the cube, and where it does not
pub first_takes : (cubes : List (List ℕ)) (at n : ℕ) (body : List ℕ) → at < length cubes → 0 < n → size cubes at ≤ n → first cubes (at + 1) (n - size cubes at) ≡ Some body → first cubes at n ≡ Some (at ∷ body)
first_takes cubes at zero body h some le e = absurd (omega (arith, some))
first_takes cubes at (suc n) body h some le e =
    first_step cubes at n h ∙ (ap (λ b. first_by at b (first cubes (at + 1) (suc n - size cubes at)) (first cubes (at + 1) (suc n))) (le-leb (size cubes at) (suc n) le)
    ∙ ap (λ o. first_by at true o (first cubes (at + 1) (suc n))) e)

pub first_leaves : (cubes : List (List ℕ)) (at n : ℕ) → at < length cubes → 0 < n → (size cubes at ≤ n → first cubes (at + 1) (n - size cubes at) ≡ None) → first cubes at n ≡ first cubes (at + 1) n
first_leaves cubes at zero h some none = absurd (omega (arith, some))
first_leaves cubes at (suc n) h some none = first_step cubes at n h ∙ by_test (nat_le (size cubes at) (suc n)) refl
  where
    by_test : (b : Bool) → nat_le (size cubes at) (suc n) ≡ b → first_by at b (first cubes (at + 1) (suc n - size cubes at)) (first cubes (at + 1) (suc n)) ≡ first cubes (at + 1) (suc n)
    by_test false e = refl
    by_test true e = ap (λ o. first_by at true o (first cubes (at + 1) (suc n))) (none (leb-true (size cubes at) (suc n) e))

-- whether there is a first body, one cube on
some_by : (at : ℕ) (b : Bool) (found other : Option (List ℕ)) → is_some (first_by at b found other) ≡ ((b && is_some found) || is_some other)
some_by at true (Some body) other = refl
some_by at true None other = refl
some_by at false found other = refl

pub some_step : (cubes : List (List ℕ)) (at n : ℕ) → at < length cubes → is_some (first cubes at (suc n)) ≡ ((nat_le (size cubes at) (suc n) && is_some (first cubes (at + 1) (suc n - size cubes at))) || is_some (first cubes (at + 1) (suc n)))
some_step cubes at n h = ap is_some (first_step cubes at n h) ∙ some_by at (nat_le (size cubes at) (suc n)) (first cubes (at + 1) (suc n - size cubes at)) (first cubes (at + 1) (suc n))

-- where the element of a row stands, in rows of one length
module _ {X : Type 0} (f : ℕ → List X) (C : ℕ) (even : (n : ℕ) → length (f n) ≡ C) where
  pub in_rows : (a k m c : ℕ) → m < k → c < C → slice_get (flat_map f (range_with_len a k)) (m * C + c) ≡ slice_get (f (a + m)) c
  in_rows a zero m c h low = absurd (omega (arith, h))
  in_rows a (suc k) zero c h low =
      let rest : List X = flat_map f (range_with_len (a + 1) k) in
      let e : 0 * C + c ≡ c = omega arith in
      ap (slice_get (f a ++ rest)) e ∙ (get_append_front (f a) rest c (omega (arith, low, even a)) ∙ ap (λ n. slice_get (f n) c) (let g : a ≡ a + 0 = omega arith in g))
  in_rows a (suc k) (suc m) c h low =
      let rest : List X = flat_map f (range_with_len (a + 1) k) in
      let e : suc m * C + c ≡ length (f a) + (m * C + c) = omega (arith, even a) in
      ap (slice_get (f a ++ rest)) e ∙ (get_append_right (f a) rest (m * C + c) ∙ (in_rows (a + 1) k m c (omega arith) low ∙ ap (λ n. slice_get (f n) c) (let g : (a + 1) + m ≡ a + suc m = omega arith in g)))

  pub rows_length : (a k : ℕ) → length (flat_map f (range_with_len a k)) ≡ k * C
  rows_length a zero = omega arith
  rows_length a (suc k) = length-append (f a) (flat_map f (range_with_len (a + 1) k)) ∙ (let e : suc k * C ≡ C + k * C = omega arith in (ap (λ n. n + length (flat_map f (range_with_len (a + 1) k))) (even a) ∙ (ap (λ n. C + n) (rows_length (a + 1) k) ∙ sym e)))

range_at : (a n i : ℕ) → i < n → slice_get (range_with_len a n) i ≡ Some (a + i)
range_at a zero i h = absurd (omega arith)
range_at a (suc n) zero h = ap Some (omega arith)
range_at a (suc n) (suc i) h = let lt : i < n = omega arith in range_at (a + 1) n i lt ∙ ap Some (omega arith)

parts_even : (cubes : List (List ℕ)) (n : ℕ) → length (map (part_of cubes n) (range_with_len 0 (length cubes))) ≡ length cubes
parts_even cubes n = length_map (part_of cubes n) (range_with_len 0 (length cubes)) ∙ length-range_with_len 0 (length cubes)

-- part m * C + c has m + 1 literals and the least cube c
pub part_at_is : (literals : ℕ) (cubes : List (List ℕ)) (m c : ℕ) → m < literals → c < length cubes → part_at literals cubes (m * length cubes + c) ≡ part_of cubes (suc m) c
part_at_is literals cubes m c h low =
    let zero_add : 0 + c ≡ c = omega arith in
    let one_add : 1 + m ≡ suc m = omega arith in
    ap (λ o. unwrap_or o [])
    (in_rows (λ n. map (part_of cubes n) (range_with_len 0 (length cubes))) (length cubes) (parts_even cubes) 1 literals m c h low
    ∙ (slice_get-map (part_of cubes (1 + m)) (range_with_len 0 (length cubes)) c ∙ (ap (option_map (part_of cubes (1 + m))) (range_at 0 (length cubes) c low)
    ∙ (ap (λ i. Some (part_of cubes (1 + m) i)) zero_add ∙ ap (λ n. Some (part_of cubes n c)) one_add))))

pub parts_count : (literals : ℕ) (cubes : List (List ℕ)) → length (parts_of literals cubes) ≡ literals * length cubes
parts_count literals cubes = rows_length (λ n. map (part_of cubes n) (range_with_len 0 (length cubes))) (length cubes) (parts_even cubes) 1 literals
