-- The greatest of a list grows with it.
use Rattle.std.proofs.Common.{◌≡◌, ℕ, ◌+◌, ◌<◌, List, [], ◌∷◌, ◌++◌, length, map, take, get_or, max, min, refl, ap, arith, ◌∙◌}
use Rattle.std.proofs.lemmas.List.{take_more, map-append}
use Rattle.sw_trees.specs.declared.tree.Tree.{Tree}
use Rattle.sw_trees.specs.Measures.{greatest, operands, nestings_of}

greatest-append : (ns : List ℕ) (n : ℕ) → greatest (ns ++ n ∷ []) ≡ max (greatest ns) n
greatest-append [] n = omega arith
greatest-append (m ∷ ns) n = let h = greatest-append ns n in omega (arith, h)

pub greatest_more : {A : Type 0} (f : A → ℕ) (xs : List A) (i : ℕ) (d : A) (most found cap : ℕ) → i < length xs → most ≡ min cap (greatest (map f (take i xs))) → found ≡ min cap (f (get_or xs i d)) →
    max found most ≡ min cap (greatest (map f (take (i + 1) xs)))
greatest_more f xs i d most found cap h a b =
    let e = ap (λ ys. greatest (map f ys)) (take_more xs i d h) ∙ ap greatest (map-append f (take i xs) (get_or xs i d ∷ [])) ∙ greatest-append (map f (take i xs)) (f (get_or xs i d)) in
    omega (arith, e, a, b)

pub operands_map : (trees : List Tree) → operands (map nestings_of trees) ≡ greatest (map (λ (x : Tree). (nestings_of x).operand) trees)
operands_map [] = refl
operands_map (x ∷ xs) = ap (max (nestings_of x).operand) (operands_map xs)
