-- How many bodies there are.
use Rattle.std.specs.Prelude.{◌≡◌, ℕ, zero, suc, ◌+◌, ◌-◌, ◌*◌, ◌^◌, ◌<◌, ◌≤◌, nat_le, Bool, true, false, cond, List, [], ◌∷◌, ◌++◌, map, length, drop, slice_index_or}
use Rattle.std.specs.List.{flat_map, range_with_len}
use Rattle.std.proofs.Common.{refl, arith, subst, sym, ap, ◌∙◌, length-append, length-drop}
use Rattle.std.proofs.Math.Nat.{one-le-pow, pow-suc, pow-le-pow_left, pow-le-pow_right, mul-le-mul}
use Rattle.sw_meaning.specs.Classes.{bodies_from, classes_of}
use Rattle.std.proofs.Math.Seq.{drop-length}
use Rattle.sw_cover.proofs.TermCounts.{length_map}
use Rattle.sw_enumerate.specs.Walk.{size, rests, AreSmall, summed}
use Rattle.sw_enumerate.proofs.Steps.{Here, here}
use Rattle.sw_enumerate.proofs.Walking.{size_is}

taken_count : (at : ℕ) (b : Bool) (bodies others : List (List ℕ)) → length (cond b (map (λ body. at ∷ body) bodies) [] ++ others) ≡ cond b (length bodies) 0 + length others
taken_count at true bodies others = length-append (map (λ body. at ∷ body) bodies) others ∙ ap (λ n. n + length others) (length_map (λ body. at ∷ body) bodies)
taken_count at false bodies others = omega arith

-- there are no more bodies of n literals than (m + 1)^n, of m cubes
pub bound : (at : ℕ) (rest : List (List ℕ)) (n : ℕ) → AreSmall rest → length (bodies_from at rest n) ≤ (length rest + 1) ^ n
bound at [] zero s = one-le-pow zero 1 (omega arith)
bound at [] (suc n) s = omega arith
bound at (cube ∷ rest) zero s = one-le-pow zero (length (cube ∷ rest) + 1) (omega arith)
bound at (cube ∷ rest) (suc n) s = by_test (nat_le (length cube) (suc n)) (bound (at + 1) rest (suc n - length cube) s.1) (bound (at + 1) rest (suc n) s.1)
  where
    m : ℕ
    m = length rest + 1

    smaller : (m + 1) * m ^ n ≤ (m + 1) ^ suc n
    smaller =
        let g : (m + 1) ^ n * (m + 1) ≡ (m + 1) ^ suc n = sym (pow-suc (m + 1) n) in
        let h : m ^ n ≤ (m + 1) ^ n = pow-le-pow_left (omega arith) n in
        let k : (m + 1) * m ^ n ≤ (m + 1) * (m + 1) ^ n = mul-le-mul {n₁ = m + 1} {m₁ = m ^ n} {n₂ = m + 1} {m₂ = (m + 1) ^ n} (omega arith) h in
        omega (arith, g, k)

    by_test : (b : Bool) → length (bodies_from (at + 1) rest (suc n - length cube)) ≤ m ^ (suc n - length cube) → length (bodies_from (at + 1) rest (suc n)) ≤ m ^ suc n
        → length (cond b (map (λ body. at ∷ body) (bodies_from (at + 1) rest (suc n - length cube))) [] ++ bodies_from (at + 1) rest (suc n)) ≤ (length (cube ∷ rest) + 1) ^ suc n
    by_test b first second =
        let e = taken_count at b (bodies_from (at + 1) rest (suc n - length cube)) (bodies_from (at + 1) rest (suc n)) in
        let fewer : cond b (length (bodies_from (at + 1) rest (suc n - length cube))) 0 ≤ m ^ n = chosen b (le_all first) in
        let split : m ^ suc n ≡ m ^ n * m = pow-suc m n in
        let whole : (length (cube ∷ rest) + 1) ^ suc n ≡ (m + 1) ^ suc n = ap (λ k. k ^ suc n) (let g : length (cube ∷ rest) + 1 ≡ m + 1 = omega arith in g) in
        omega (arith, e, fewer, second, split, smaller, whole)
      where
        chosen : (b : Bool) → length (bodies_from (at + 1) rest (suc n - length cube)) ≤ m ^ n → cond b (length (bodies_from (at + 1) rest (suc n - length cube))) 0 ≤ m ^ n
        chosen true h = h
        chosen false h = omega arith

        le_all : length (bodies_from (at + 1) rest (suc n - length cube)) ≤ m ^ (suc n - length cube) → length (bodies_from (at + 1) rest (suc n - length cube)) ≤ m ^ n
        le_all h =
            let g : m ^ (suc n - length cube) ≤ m ^ n = pow-le-pow_right (omega arith) (omega (arith, s.0.0)) in
            omega (arith, h, g)

-- one more cube
pub count_step : (cubes : List (List ℕ)) (at n : ℕ) → at < length cubes → length (rests cubes at (suc n)) ≡ cond (nat_le (size cubes at) (suc n)) (length (rests cubes (at + 1) (suc n - size cubes at))) 0 + length (rests cubes (at + 1) (suc n))
count_step cubes at n h =
    let i : Here cubes at = here cubes at h in
    ap (λ rest. length (bodies_from at rest (suc n))) i.drops
    ∙ (taken_count at (nat_le (length i.cube) (suc n)) (bodies_from (at + 1) (drop (at + 1) cubes) (suc n - length i.cube)) (bodies_from (at + 1) (drop (at + 1) cubes) (suc n))
    ∙ ap (λ k. cond (nat_le k (suc n)) (length (rests cubes (at + 1) (suc n - k))) 0 + length (rests cubes (at + 1) (suc n))) (sym (size_is cubes at i.cube i.is)))

pub count_zero : (cubes : List (List ℕ)) (at : ℕ) → length (rests cubes at 0) ≡ 1
count_zero cubes at = by_rest (drop at cubes)
  where
    by_rest : (rest : List (List ℕ)) → length (bodies_from at rest 0) ≡ 1
    by_rest [] = refl
    by_rest (cube ∷ rest) = refl

-- the counts of bodies with cubes from a number on
abbrev pub CountsAre : List (List ℕ) → ℕ → List ℕ → Type 0
CountsAre cubes at counts = (n : ℕ) → n < 7 → slice_index_or counts n 0 ≡ length (rests cubes at n)

abbrev zeros : List ℕ
zeros = 0 ∷ 0 ∷ 0 ∷ 0 ∷ 0 ∷ 0 ∷ []

abbrev none : ℕ
none = 0

pub counts_end : (cubes : List (List ℕ)) → CountsAre cubes (length cubes) (1 ∷ 0 ∷ 0 ∷ 0 ∷ 0 ∷ 0 ∷ 0 ∷ [])
counts_end cubes zero h = sym (count_zero cubes (length cubes))
counts_end cubes (suc n) h = off n (omega arith) ∙ sym (ap (λ rest. length (bodies_from (length cubes) rest (suc n))) (drop-length cubes))
  where
    off : (n : ℕ) → n < 6 → slice_index_or zeros n none ≡ none
    off zero h = refl
    off (suc zero) h = refl
    off (suc (suc zero)) h = refl
    off (suc (suc (suc zero))) h = refl
    off (suc (suc (suc (suc zero)))) h = refl
    off (suc (suc (suc (suc (suc zero))))) h = refl
    off (suc (suc (suc (suc (suc (suc n)))))) h = absurd (omega (arith, h))

pub counts_step : (cubes : List (List ℕ)) (at : ℕ) (counts next : List ℕ) → at < length cubes → 0 < size cubes at → CountsAre cubes (at + 1) counts
    → ((n : ℕ) → n < 7 → slice_index_or next n 0 ≡ summed (size cubes at) counts n) → CountsAre cubes at next
counts_step cubes at counts next low some is step zero h =
    step zero h ∙ (ap (λ b. cond b (slice_index_or counts (0 - size cubes at) 0) 0 + slice_index_or counts 0 0) (none (size cubes at) some)
    ∙ (ap (λ n. 0 + n) (is zero h ∙ count_zero cubes (at + 1)) ∙ sym (count_zero cubes at)))
  where
    none : (a : ℕ) → 0 < a → nat_le a 0 ≡ false
    none a h = grind arith
counts_step cubes at counts next low some is step (suc n) h =
    step (suc n) h
    ∙ (ap (λ m. cond (nat_le (size cubes at) (suc n)) m 0 + slice_index_or counts (suc n) 0) (is (suc n - size cubes at) (omega (arith, h)))
    ∙ (ap (λ m. cond (nat_le (size cubes at) (suc n)) (length (rests cubes (at + 1) (suc n - size cubes at))) 0 + m) (is (suc n) h)
    ∙ sym (count_step cubes at n low)))

small_drop : (cubes : List (List ℕ)) (at : ℕ) → AreSmall cubes → AreSmall (drop at cubes)
small_drop [] zero s = tt
small_drop [] (suc at) s = tt
small_drop (c ∷ cubes) zero s = s
small_drop (c ∷ cubes) (suc at) s = small_drop cubes at s.1

-- no count is larger than that of all
pub most_bodies : (cubes : List (List ℕ)) (at n : ℕ) → AreSmall cubes → length cubes ≤ 1048576 → n ≤ 6 → length (rests cubes at n) ≤ 1048577 ^ 6
most_bodies cubes at n s few le =
    let a : length (rests cubes at n) ≤ (length (drop at cubes) + 1) ^ n = bound at (drop at cubes) n (small_drop cubes at s) in
    let b : (length (drop at cubes) + 1) ^ n ≤ 1048577 ^ n = pow-le-pow_left (let g : length (drop at cubes) + 1 ≤ 1048577 = omega (arith, length-drop at cubes, few) in g) n in
    let c : 1048577 ^ n ≤ 1048577 ^ 6 = pow-le-pow_right {n = 1048577} (omega arith) le in
    omega (arith, a, b, c)

pub record CountsTo (cubes : List (List ℕ)) (counts : List ℕ) (total k : ℕ) : Type 0 where
  pub all : total ≡ length cubes
  pub are : CountsAre cubes (length cubes - k) counts

pub counts_most : (cubes : List (List ℕ)) (counts : List ℕ) (total k : ℕ) → CountsTo cubes counts total k → AreSmall cubes → length cubes ≤ 1048576 → (n : ℕ) → n < 7 → slice_index_or counts n 0 ≤ 1048577 ^ 6
counts_most cubes counts total k c s few n h = let m = most_bodies cubes (length cubes - k) n s few (omega (arith, h)) in omega (arith, m, c.are n h)

pub counts_more : (cubes : List (List ℕ)) (counts next : List ℕ) (total k size' : ℕ) → CountsTo cubes counts total k → k < total → size' ≡ size cubes (total - 1 - k) → 0 < size'
    → ((n : ℕ) → n < 7 → slice_index_or next n 0 ≡ summed size' counts n) → CountsTo cubes next total (k + 1)
counts_more cubes counts next total k size' c low same some step =
    let at : ℕ = total - 1 - k in
    let here : at ≡ length cubes - (k + 1) = omega (arith, c.all, low) in
    let later : length cubes - k ≡ at + 1 = omega (arith, c.all, low) in
    let is : CountsAre cubes at next =
    counts_step cubes at counts next (omega (arith, c.all, low)) (omega (arith, same, some)) (subst (λ n. CountsAre cubes n counts) later c.are) (λ n h. step n h ∙ ap (λ s. summed s counts n) same) in
    record { all = c.all; are = subst (λ n. CountsAre cubes n next) here is }

-- the classes of one more literal
more_classes : (cubes : List (List ℕ)) (a k : ℕ) → length (flat_map (bodies_from 0 cubes) (range_with_len a (k + 1))) ≡ length (flat_map (bodies_from 0 cubes) (range_with_len a k)) + length (bodies_from 0 cubes (a + k))
more_classes cubes a zero = length-append (bodies_from 0 cubes a) [] ∙ (let e : a ≡ a + 0 = omega arith in (let g : length (bodies_from 0 cubes a) ≡ length (bodies_from 0 cubes (a + 0)) = ap (λ n. length (bodies_from 0 cubes n)) e in omega (arith, g)))
more_classes cubes a (suc k) =
    let rest = more_classes cubes (a + 1) k in
    let e : length (bodies_from 0 cubes ((a + 1) + k)) ≡ length (bodies_from 0 cubes (a + suc k)) = ap (λ n. length (bodies_from 0 cubes n)) (let g : (a + 1) + k ≡ a + suc k = omega arith in g) in
    let one : range_with_len a (suc k + 1) ≡ a ∷ range_with_len (a + 1) (k + 1) = ap (range_with_len a) (let g : suc k + 1 ≡ suc (k + 1) = omega arith in g) in
    ap (λ ns. length (flat_map (bodies_from 0 cubes) ns)) one
    ∙ (length-append (bodies_from 0 cubes a) (flat_map (bodies_from 0 cubes) (range_with_len (a + 1) (k + 1)))
    ∙ (let split = length-append (bodies_from 0 cubes a) (flat_map (bodies_from 0 cubes) (range_with_len (a + 1) k)) in omega (arith, rest, e, split)))

pub classes_more : (cubes : List (List ℕ)) (k : ℕ) → length (classes_of (k + 1) cubes) ≡ length (classes_of k cubes) + length (rests cubes 0 (k + 1))
classes_more cubes k = more_classes cubes 1 k ∙ ap (λ n. length (classes_of k cubes) + length (bodies_from 0 cubes n)) (let e : 1 + k ≡ k + 1 = omega arith in e)
