-- No class stands twice.
use Rattle.std.specs.Prelude.{◌≡◌, ◌≢◌, ℕ, zero, suc, ◌+◌, ◌-◌, ◌<◌, nat_le, Bool, true, false, cond, List, [], ◌∷◌, map, length, slice_get, unwrap_or}
use Rattle.std.specs.List.{AllByRecursion, range_with_len}
use Rattle.std.proofs.Common.{refl, arith, sym, ap, ◌∙◌, subst}
use Rattle.sw_meaning.specs.Classes.{bodies_from}
use Rattle.sw_lists.proofs.Each.{each-any, each-map, each-weaker}
use Rattle.sw_cover.specs.Apart.{Apart}
use Rattle.sw_cover.specs.Laws.{EachClassOnce}
use Rattle.sw_cover.proofs.Members.{each-from_all, apart-map, apart-flat_map, map_same}
use Rattle.sw_cover.proofs.Rising.{weight, weights_of, IsBody, each_body}
use Rattle.sw_cover.proofs.Parted.{From, each_from}

-- a list that begins with this number
abbrev Begins : ℕ → List ℕ → Type 0
Begins at body = (tail : List ℕ) × (body ≡ at ∷ tail)

differ : (at : ℕ) (x y : List ℕ) → Begins at x → From (at + 1) y → x ≢ y
differ at x [] p q e = q
differ at x (c ∷ y) p q e = let f : at ∷ p.0 ≡ c ∷ y = sym p.1 ∙ e in let g : at ≡ c = cc in absurd (omega (arith, q, g))

heads : (at : ℕ) (b : Bool) (tails : List (List ℕ)) → AllByRecursion (Begins at) (cond b (map (λ body. at ∷ body) tails) [])
heads at false tails = tt
heads at true tails = each-map (Begins at) (λ body. at ∷ body) tails (each-any (λ body. Begins at (at ∷ body)) (λ body. (body, refl)) tails)

taken : (at : ℕ) (b : Bool) (tails : List (List ℕ)) → Apart tails → Apart (cond b (map (λ body. at ∷ body) tails) [])
taken at false tails a = tt
taken at true tails a = apart-map (λ body. body) (λ body. at ∷ body) (λ s t e. let f : at ∷ s ≡ at ∷ t = e in cc) tails (subst Apart (sym (map_same tails)) a)

-- no two bodies of a number of literals are equal
bodies_apart : (at : ℕ) (rest : List (List ℕ)) (n : ℕ) → Apart (bodies_from at rest n)
bodies_apart at [] zero = (tt, tt)
bodies_apart at [] (suc n) = tt
bodies_apart at (cube ∷ rest) zero = (tt, tt)
bodies_apart at (cube ∷ rest) (suc n) =
    each-from_all (Begins at) (From (at + 1)) _ (bodies_from (at + 1) rest (suc n)) (differ at)
    (heads at (nat_le (length cube) (suc n)) (bodies_from (at + 1) rest (suc n - length cube))) (each_from (at + 1) rest n)
    (taken at (nat_le (length cube) (suc n)) (bodies_from (at + 1) rest (suc n - length cube)) (bodies_apart (at + 1) rest (suc n - length cube)))
    (bodies_apart (at + 1) rest (suc n))

range_above : (a b n : ℕ) → a < b → AllByRecursion (λ m. a ≢ m) (map (λ m. m) (range_with_len b n))
range_above a b zero h = tt
range_above a b (suc n) h = (omega arith, range_above a (b + 1) n (omega arith))

range_apart : (a n : ℕ) → Apart (map (λ m. m) (range_with_len a n))
range_apart a zero = tt
range_apart a (suc n) = (range_above a (a + 1) n (omega arith), range_apart (a + 1) n)

pub classes_apart : EachClassOnce
classes_apart most cubes =
    apart-flat_map (λ n. n) (λ n body. weight size body ≡ n) (λ n m x y ne p q e. ne (sym p ∙ (ap (weight size) e ∙ q))) (bodies_from 0 cubes) (range_with_len 1 most)
    (range_apart 1 most)
    (each-any (λ n. AllByRecursion (λ body. weight size body ≡ n) (bodies_from 0 cubes n))
    (λ n. each-weaker (IsBody size (0 + length cubes) n) (λ body. weight size body ≡ n) (λ body b. b.weighs) (bodies_from 0 cubes n) (each_body size 0 cubes n (weights_of cubes))) (range_with_len 1 most))
    (each-any (λ n. Apart (bodies_from 0 cubes n)) (bodies_apart 0 cubes) (range_with_len 1 most))
  where
    size : ℕ → ℕ
    size c = length (unwrap_or (slice_get cubes c) [])
