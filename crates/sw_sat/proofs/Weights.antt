-- The weight of a trail, and why the search ends.
use Rattle.std.specs.Prelude.{◌≡◌, ◌+◌, ◌-◌, ◌*◌, ◌^◌, ◌<◌, ◌≤◌, ℕ, zero, suc, Bool, true, false, List, [], ◌∷◌, ◌++◌, length, take, Option, None, Some, is_some, if◌then◌else◌, slice_get}
use Rattle.std.proofs.Common.{refl, ap, ◌∙◌, arith}
use Rattle.std.proofs.Math.Nat.{pow-succ', mul-le-mul_right}
use Rattle.std.proofs.lemmas.Nat.{pow_pos}
use Rattle.std.proofs.lemmas.Option.{same_Some}
use Rattle.sw_sat.specs.declared.trail.Entry.{Entry}
use Rattle.sw_sat.specs.Progress.{weight, left}

bit_le : (b : Bool) (n : ℕ) → (if b then n else 0) ≤ n
bit_le true n = omega arith
bit_le false n = omega arith

pub weight_below : (n : ℕ) (entries : List Entry) → weight n entries < 2 ^ n
weight_below zero entries = pow_pos 0
weight_below (suc n) [] = pow_pos (suc n)
weight_below (suc n) (e ∷ entries) = omega (arith, bit_le (is_some e.reason) (2 ^ n), weight_below n entries, pow-succ' 2 n)

pub weight_append : (n : ℕ) (xs ys : List Entry) → weight n xs ≤ weight n (xs ++ ys)
weight_append zero xs ys = omega arith
weight_append (suc n) [] ys = omega arith
weight_append (suc n) (x ∷ xs) ys = omega (arith, weight_append n xs ys)

forced_bit : (e : Entry) (n : ℕ) → (e.reason ≡ None → ⊥) → (if is_some e.reason then n else 0) ≡ n
forced_bit e n h = go e.reason h
  where
    go : (r : Option ℕ) → (r ≡ None → ⊥) → (if is_some r then n else 0) ≡ n
    go None h = absurd (h refl)
    go (Some x) h = refl

decided_bit : (e : Entry) (n : ℕ) → e.reason ≡ None → (if is_some e.reason then n else 0) ≡ 0
decided_bit e n h = ap (λ (r : Option ℕ). if is_some r then n else 0) h

-- a forced entry in a decision's place makes the weight greater
pub weight_raised : (n : ℕ) (entries : List Entry) (at : ℕ) (e f : Entry) → length entries ≤ n → slice_get entries at ≡ Some e → e.reason ≡ None → (f.reason ≡ None → ⊥)
    → weight n entries < weight n (take at entries ++ f ∷ [])
weight_raised n [] at e f h is d k = absurd (cc)
weight_raised zero (x ∷ entries) at e f h is d k = absurd (omega arith)
weight_raised (suc n) (x ∷ entries) zero e f h is d k =
    let i : x ≡ e = same_Some x e is in
    let z : (if is_some x.reason then 2 ^ n else 0) ≡ 0 = decided_bit x (2 ^ n) (ap (λ (y : Entry). y.reason) i ∙ d) in
    omega (arith, forced_bit f (2 ^ n) k, weight_below n entries)
weight_raised (suc n) (x ∷ entries) (suc at) e f h is d k = omega (arith, weight_raised n entries at e f (omega arith) is d k)

less_by_weight : (v w a b i j : ℕ) → a < b → b ≤ w → i ≤ v → (w - b) * (v + 1) + (v - i) < (w - a) * (v + 1) + (v - j)
less_by_weight v w a b i j h k l =
    let m : ((w - b) + 1) * (v + 1) ≤ (w - a) * (v + 1) = mul-le-mul_right (v + 1) (omega arith) in
    let p : ((w - b) + 1) * (v + 1) ≡ (w - b) * (v + 1) + (v + 1) = omega arith in
    omega arith

less_by_length : (v w a b i j : ℕ) → a ≤ b → j < i → i ≤ v → (w - b) * (v + 1) + (v - i) < (w - a) * (v + 1) + (v - j)
less_by_length v w a b i j h k l =
    let m : (w - b) * (v + 1) ≤ (w - a) * (v + 1) = mul-le-mul_right (v + 1) (omega arith) in omega arith

le_by_both : (v w a b i j : ℕ) → a ≤ b → j ≤ i → (w - b) * (v + 1) + (v - i) ≤ (w - a) * (v + 1) + (v - j)
le_by_both v w a b i j h k =
    let m : (w - b) * (v + 1) ≤ (w - a) * (v + 1) = mul-le-mul_right (v + 1) (omega arith) in omega arith

pub left_raised : (v : ℕ) (old new : List Entry) → weight v old < weight v new → length new ≤ v → left v new < left v old
left_raised v old new h l =
    let b : weight v new < 2 ^ v = weight_below v new in
    less_by_weight v (2 ^ v) (weight v old) (weight v new) (length new) (length old) h (omega arith) l

pub left_longer : (v : ℕ) (old new : List Entry) → weight v old ≤ weight v new → length old < length new → length new ≤ v → left v new < left v old
left_longer v old new h k l = less_by_length v (2 ^ v) (weight v old) (weight v new) (length new) (length old) h k l

pub left_grows : (v : ℕ) (old new : List Entry) → weight v old ≤ weight v new → length old ≤ length new → left v new ≤ left v old
left_grows v old new h k = le_by_both v (2 ^ v) (weight v old) (weight v new) (length new) (length old) h k
