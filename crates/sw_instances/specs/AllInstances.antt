-- All instances over a universe, in order.
use Rattle.std.specs.Prelude.{◌≡◌, ◌<◌, ℕ, true, List, ◌++◌, map, length}
use Rattle.std.specs.List.{flat_map, range_with_len, enumerate_from}
use Rattle.sw_logic.specs.declared.syntax.Symbol.{Symbol}
use Rattle.sw_logic.specs.Truth.{size_of}
use Rattle.sw_logic.specs.Signatures.{is_signature}
use Rattle.sw_truth.specs.declared.limits.TheConstants.{MOST_INSTANCES}
use Rattle.sw_truth.specs.declared.sets.Piece.{Piece}
use Rattle.sw_truth.specs.declared.sets.SkolemSet.{SkolemSet}
use Rattle.sw_truth.specs.declared.instances.Instance.{Instance}
use Rattle.sw_truth.specs.declared.instances.Instance.TheVariants.{Of, Reflexive, Symmetric, Transitive, Congruent}
use Rattle.sw_universe.specs.declared.universe.Universe.{Universe}
use Rattle.sw_universe.specs.ByNumber.{counts}
use Rattle.sw_universe.specs.GroundTerms.{tuples, universe_of}
use Rattle.sw_universe.specs.Sizes.{capped, instance_count}
use Rattle.sw_instances.specs.declared.instances.GroundError.{GroundError}
use Rattle.sw_instances.specs.declared.instances.GroundError.TheVariants.{TooLarge, Memory}

-- the numbers of the ground terms of a sort
abbrev pub numbers : Universe → ℕ → List ℕ
numbers u sort = range_with_len 0 (size_of (counts u) sort)

-- one ground term of each sort, lexicographically
abbrev pub choices : Universe → List ℕ → List (List ℕ)
choices u sorts = tuples (map (numbers u) sorts)

-- a piece, behind its number, with its ground terms
abbrev pub piece_instances : Universe → ℕ × Piece → List Instance
piece_instances u p = map (Of p.0) (choices u p.1.vars)

-- reflexivity, symmetry and transitivity of a sort
abbrev pub equality_instances : Universe → ℕ → List Instance
equality_instances u sort =
    map (Reflexive sort) (numbers u sort)
    ++ (flat_map (λ t. map (Symmetric sort t) (numbers u sort)) (numbers u sort)
    ++ flat_map (λ t. flat_map (λ v. map (Transitive sort t v) (numbers u sort)) (numbers u sort)) (numbers u sort))

-- congruence of a symbol at a place, behind it the place's sort, for these tuples of arguments
abbrev pub congruence_at : Universe → ℕ → List (List ℕ) → ℕ × ℕ → List Instance
congruence_at u symbol arguments place = flat_map (λ ns. map (Congruent symbol place.0 ns) (numbers u place.1)) arguments

-- congruence of a symbol, behind its number, place by place
abbrev pub congruence_instances : Universe → ℕ × Symbol → List Instance
congruence_instances u s = flat_map (congruence_at u s.0 (choices u s.1.args)) (enumerate_from 0 s.1.args)

-- the pieces by number, then equality sort by sort, then congruence symbol by symbol
abbrev pub instances_of : SkolemSet → Universe → List Instance
instances_of set u =
    flat_map (piece_instances u) (enumerate_from 0 set.pieces)
    ++ (flat_map (equality_instances u) (range_with_len 0 (length set.signature.sorts))
    ++ flat_map (congruence_instances u) (enumerate_from 0 set.signature.symbols))

-- why there is no list of all instances
abbrev pub IsGroundFault : SkolemSet → Universe → GroundError → Type 0
IsGroundFault set u (TooLarge count) = (MOST_INSTANCES < length (instances_of set u)) × (count ≡ capped (length (instances_of set u)))
IsGroundFault set u Memory = Unit {0}

-- there are as many instances as the size of the set says
abbrev pub CountIsLength : Type 0
CountIsLength = (set : SkolemSet) (u : Universe) → is_signature set.signature ≡ true → u.lists ≡ universe_of set.signature → length (instances_of set u) ≡ instance_count set
