-- Where there are no edges, all ranks may be 0.
use Rattle.std.specs.Prelude.{◌≡◌, ◌<◌, ℕ, zero, suc, List, [], ◌∷◌, map}
use Rattle.std.specs.List.{AllByRecursion, range_with_len}
use Rattle.std.proofs.Common.{arith, sym, subst}
use Rattle.std.proofs.lemmas.List.FromFn.{length-map-range_with_len}
use Rattle.sw_logic.specs.declared.syntax.Edge.{Edge}
use Rattle.sw_logic.specs.Strata.{AreRanks}

below : (n : ℕ) → 0 < n → (xs : List ℕ) → AllByRecursion (λ r. r < n) (map (λ (k : ℕ). 0) xs)
below n h [] = tt
below n h (x ∷ xs) = (h, below n h xs)

all_below : (n : ℕ) → AllByRecursion (λ r. r < n) (map (λ (k : ℕ). 0) (range_with_len 0 n))
all_below zero = tt
all_below (suc n) = below (suc n) (omega arith) (range_with_len 0 (suc n))

level : (n : ℕ) → AreRanks n [] (map (λ (k : ℕ). 0) (range_with_len 0 n))
level n = record { count = length-map-range_with_len (λ (k : ℕ). 0) 0 n; below = all_below n; rises = tt }

pub are_level : (n : ℕ) (edges : List Edge) → edges ≡ [] → AreRanks n edges (map (λ (k : ℕ). 0) (range_with_len 0 n))
are_level n edges e = subst (λ (es : List Edge). AreRanks n es (map (λ (k : ℕ). 0) (range_with_len 0 n))) (sym e) (level n)
