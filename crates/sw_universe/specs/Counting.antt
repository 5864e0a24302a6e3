-- How many ground terms there are, symbol by symbol.
use Rattle.std.specs.Prelude.{◌≡◌, length, ℕ, ◌+◌, ◌*◌, ◌&&◌, ◌==◌, List, map, slice_index, if◌then◌else◌}
use Rattle.std.specs.List.{range_with_len, sum_by}
use Rattle.sw_logic.specs.declared.syntax.Signature.{Signature}
use Rattle.sw_logic.specs.declared.syntax.Symbol.{Symbol}
use Rattle.sw_universe.specs.GroundTerms.{is_constant, is_function, terms_within}
use Rattle.sw_truth.specs.declared.sets.Piece.{Piece}
use Rattle.sw_truth.specs.declared.sets.SkolemSet.{SkolemSet}
use Rattle.sw_universe.specs.Sizes.{product, capped, equalities}

-- the number of terms of a sort in a table
abbrev pub count_in : List ℕ → ℕ → ℕ
count_in counts sort = slice_index counts sort

abbrev pub one_constant : ℕ → Symbol → ℕ
one_constant sort s = if is_constant s.kind && (s.gives == sort) then 1 else 0

-- how many choices of arguments of these sorts there are
abbrev pub choices_in : (ℕ → ℕ) → List ℕ → ℕ
choices_in count sorts = product (map count sorts)

abbrev pub applied_count : (ℕ → ℕ) → ℕ → Symbol → ℕ
applied_count count sort s = if is_function s.kind && (s.gives == sort) then choices_in count s.args else 0

abbrev pub constant_count : List Symbol → ℕ → ℕ
constant_count symbols sort = capped (sum_by (one_constant sort) symbols)

-- the number of terms of a sort whose arguments are counted
abbrev pub count_over : List Symbol → List ℕ → ℕ → ℕ
count_over symbols counts sort = capped (sum_by (one_constant sort) symbols + sum_by (applied_count (count_in counts) sort) symbols)

abbrev pub congruences_in : (ℕ → ℕ) → Symbol → ℕ
congruences_in count s = sum_by (λ sort. choices_in count s.args * count sort) s.args

-- how many instances there are, of pieces and of equality, where each sort has so many terms
abbrev pub instances_in : (ℕ → ℕ) → SkolemSet → ℕ
instances_in count set =
    sum_by (λ (p : Piece). choices_in count p.vars) set.pieces
    + (sum_by (λ sort. equalities (count sort)) (range_with_len 0 (length set.signature.sorts))
    + sum_by (congruences_in count) set.signature.symbols)

-- the counts of the terms of each sort that are nested no deeper than this, capped
abbrev pub AreCounts : Signature → ℕ → List ℕ → Type 0
AreCounts sig depth counts = (sort : ℕ) → count_in counts sort ≡ capped (length (terms_within sig depth sort))
