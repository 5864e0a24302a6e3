-- Capped sums, products and numbers of pairs.
use Rattle.std.specs.Prelude.{◌≡◌, ℕ, zero, suc, ◌+◌, ◌*◌, ◌-◌, ◌/◌, ◌<◌, ◌≤◌, List, [], ◌∷◌, ◌++◌, slice_index_or}
use Rattle.std.specs.List.{range_with_len}
use Rattle.std.proofs.Common.{refl, arith, ap, ◌∙◌}
use Rattle.sw_cover.specs.Counting.{total, binomial}
use Rattle.sw_template.specs.Counts.{capped, row_after}

pub capped_both : (a b : ℕ) → capped (capped a + capped b) ≡ capped (a + b)
capped_both a b = omega arith

pub capped_most : (a : ℕ) → capped a ≤ 18446744073709551616
capped_most a = omega arith

ones : (n : ℕ) → binomial n 1 ≡ n
ones zero = refl
ones (suc n) = let rest : binomial n 1 ≡ n = ones n in omega (arith, rest)

twice : (n : ℕ) → binomial n 2 * 2 + n ≡ n * n
twice zero = refl
twice (suc n) = omega (arith, twice n, ones n)

pub pairs_are : (n : ℕ) → 0 < n → n * (n - 1) / 2 ≡ binomial n 2
pairs_are n h = halved (n * (n - 1)) (binomial n 2) (product_is n h)
  where
    halved : (a b : ℕ) → a ≡ b * 2 → a / 2 ≡ b
    halved a b e = omega (arith, e)

    product_is : (n : ℕ) → 0 < n → n * (n - 1) ≡ binomial n 2 * 2
    product_is zero h = absurd (omega arith)
    product_is (suc n) h = let less : suc n - 1 ≡ n = omega arith in ap (λ k. suc n * k) less ∙ rest n (binomial (suc n) 2) (twice (suc n))
      where
        rest : (n b : ℕ) → b * 2 + suc n ≡ suc n * suc n → suc n * n ≡ b * 2
        rest n b e = omega (arith, e)

pub row_more : (counts : List ℕ) (m : ℕ) → ((n : ℕ) → n < 7 → slice_index_or counts n 0 ≡ capped (binomial m n)) → (n : ℕ) → n < 7 → row_after counts n ≡ capped (binomial (suc m) n)
row_more counts zero are zero h = are zero h
row_more counts (suc m) are zero h = are zero h
row_more counts m are (suc n) h =
    ap (λ a. capped (a + slice_index_or counts (suc n) 0)) (are n (omega arith))
    ∙ (ap (λ b. capped (capped (binomial m n) + b)) (are (suc n) h) ∙ capped_both (binomial m n) (binomial m (suc n)))

range_grows : (a n : ℕ) → range_with_len a (suc n) ≡ range_with_len a n ++ (a + n) ∷ []
range_grows a zero = let same : a ≡ a + 0 = omega arith in ap (λ k. k ∷ []) same
range_grows a (suc n) =
    let same : a + 1 + n ≡ a + suc n = omega arith in
    ap (λ ks. a ∷ ks) (range_grows (a + 1) n) ∙ ap (λ k. a ∷ (range_with_len (a + 1) n ++ k ∷ [])) same

pub range_more : (a n : ℕ) → range_with_len a (n + 1) ≡ range_with_len a n ++ (a + n) ∷ []
range_more a n = let same : n + 1 ≡ suc n = omega arith in ap (range_with_len a) same ∙ range_grows a n

pub total_append : {X : Type 0} (f : X → ℕ) (xs ys : List X) → total f (xs ++ ys) ≡ total f xs + total f ys
total_append f [] ys = omega arith
total_append f (x ∷ xs) ys = omega (arith, total_append f xs ys)

pub total_more : (f : ℕ → ℕ) (a n : ℕ) → total f (range_with_len a (n + 1)) ≡ total f (range_with_len a n) + f (a + n)
total_more f a n = ap (total f) (range_more a n) ∙ (total_append f (range_with_len a n) ((a + n) ∷ []) ∙ omega arith)

pub count_more : (f : ℕ → ℕ) (n count next r : ℕ) → count ≡ capped (total f (range_with_len 1 n)) → next ≡ capped (f (n + 1)) → r ≡ capped (count + next) → r ≡ capped (total f (range_with_len 1 (n + 1)))
count_more f n count next r e k h =
    let same : f (1 + n) ≡ f (n + 1) = (let one : 1 + n ≡ n + 1 = omega arith in ap f one) in
    let more : total f (range_with_len 1 (n + 1)) ≡ total f (range_with_len 1 n) + f (1 + n) = total_more f 1 n in
    omega (arith, e, k, h, same, more)
