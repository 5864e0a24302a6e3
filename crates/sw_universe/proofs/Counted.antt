-- Sums and products that are capped, and numbers of ground terms.
use Rattle.std.specs.Prelude.{◌≡◌, ℕ, ◌+◌, ◌*◌, ◌^◌, ◌<◌, min, List, length, take, drop, get_or}
use Rattle.std.specs.List.{sum_by}
use Rattle.std.proofs.Common.{arith, refl, sym, ap, ◌∙◌}
use Rattle.std.proofs.Math.Nat.{mul_comm}
use Rattle.std.proofs.lemmas.List.{drop_more}
use Rattle.std.proofs.lemmas.List.Sums.{sum_by_more}
use Rattle.sw_logic.proofs.Places.{min-mul}
use Rattle.sw_universe.specs.Sizes.{capped}
use Rattle.sw_universe.specs.Counting.{choices_in}

pub min_min : (m a : ℕ) → min m (min m a) ≡ min m a
min_min m a = omega arith

pub add_same : (m a b c d : ℕ) → min m a ≡ min m b → min m c ≡ min m d → min m (a + c) ≡ min m (b + d)
add_same m a b c d e h = omega arith

mul_min : (m a c : ℕ) → min m (a * c) ≡ min m (min m a * c)
mul_min m a c =
    let e : min m a * c + 0 ≡ min m a * c = omega arith in
    let f : a * c + 0 ≡ a * c = omega arith in
    ap (min m) (sym f) ∙ (sym (min-mul m a c 0) ∙ ap (min m) e)

mul_left_same : (m a b c : ℕ) → min m a ≡ min m b → min m (a * c) ≡ min m (b * c)
mul_left_same m a b c e = mul_min m a c ∙ (ap (λ x. min m (x * c)) e ∙ sym (mul_min m b c))

pub mul_same : (m a b c d : ℕ) → min m a ≡ min m b → min m c ≡ min m d → min m (a * c) ≡ min m (b * d)
mul_same m a b c d e h =
    mul_left_same m a b c e ∙ (ap (min m) (mul_comm b c) ∙ (mul_left_same m c d b h ∙ ap (min m) (mul_comm d b)))

pub add_capped : (a b s v : ℕ) → a ≡ capped s → b ≡ capped v → capped (a + b) ≡ capped (s + v)
add_capped a b s v e h = add_same (2 ^ 64) a s b v (ap capped e ∙ min_min (2 ^ 64) s) (ap capped h ∙ min_min (2 ^ 64) v)

pub mul_capped : (a b v : ℕ) → b ≡ capped v → capped (a * b) ≡ capped (a * v)
mul_capped a b v h = mul_same (2 ^ 64) a a b v refl (ap capped h ∙ min_min (2 ^ 64) v)

pub sum_more : {X : Type 0} (f : X → ℕ) (xs : List X) (i : ℕ) (d : X) (total new value : ℕ) → i < length xs → total ≡ capped (sum_by f (take i xs)) → value ≡ capped (f (get_or xs i d)) → new ≡ capped (total + value) → new ≡ capped (sum_by f (take (i + 1) xs))
sum_more f xs i d total new value l t v n =
    n ∙ (add_capped total value (sum_by f (take i xs)) (f (get_or xs i d)) t v ∙ ap capped (sym (sum_by_more f xs i d l)))

pub choices_more : (count : ℕ → ℕ) (xs : List ℕ) (i d : ℕ) (all new : ℕ) → i < length xs → all ≡ capped (choices_in count (drop (i + 1) xs)) → new ≡ capped (count (get_or xs i d) * all) → new ≡ capped (choices_in count (drop i xs))
choices_more count xs i d all new l a n =
    n ∙ (mul_capped (count (get_or xs i d)) all (choices_in count (drop (i + 1) xs)) a ∙ ap (λ (ys : List ℕ). capped (choices_in count ys)) (sym (drop_more xs i d l)))
