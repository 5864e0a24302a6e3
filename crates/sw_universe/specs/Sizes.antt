-- How many ground terms and instances a Skolem form has.
use Rattle.std.specs.Prelude.{ℕ, ◌+◌, ◌*◌, ◌^◌, min, List, [], ◌∷◌, map, length}
use Rattle.std.specs.List.{range_with_len, sum_by}
use Rattle.sw_logic.specs.declared.syntax.Symbol.{Symbol}
use Rattle.sw_logic.specs.declared.syntax.Signature.{Signature}
use Rattle.sw_truth.specs.declared.sets.Piece.{Piece}
use Rattle.sw_truth.specs.declared.sets.SkolemSet.{SkolemSet}
use Rattle.sw_universe.specs.declared.sizes.Size.{Size}
use Rattle.sw_universe.specs.GroundTerms.{term_count}

abbrev pub product : List ℕ → ℕ
product [] = 1
product (n ∷ ns) = n * product ns

-- how many choices of ground terms of these sorts there are
abbrev pub choices : Signature → List ℕ → ℕ
choices sig sorts = product (map (term_count sig) sorts)

-- reflexivity, symmetry and transitivity
abbrev pub equalities : ℕ → ℕ
equalities n = n + (n * n + n * (n * n))

-- congruence in each argument of a symbol
abbrev pub congruences : Signature → Symbol → ℕ
congruences sig s = sum_by (λ sort. choices sig s.args * term_count sig sort) s.args

-- how many instances there are, of pieces and of equality
abbrev pub instance_count : SkolemSet → ℕ
instance_count set =
    sum_by (λ (piece : Piece). choices set.signature piece.vars) set.pieces
    + (sum_by (λ sort. equalities (term_count set.signature sort)) (range_with_len 0 (length set.signature.sorts))
    + sum_by (congruences set.signature) set.signature.symbols)

abbrev pub capped : ℕ → ℕ
capped n = min (2 ^ 64) n

-- the two numbers, each capped at 2^64
abbrev pub size_of_set : SkolemSet → Size
size_of_set set = record {
  terms = capped (sum_by (term_count set.signature) (range_with_len 0 (length set.signature.sorts)));
  instances = capped (instance_count set);
}
