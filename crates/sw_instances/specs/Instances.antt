-- Instances of the pieces of a Skolem set and of equality, and their clauses.
use Rattle.std.specs.Prelude.{◌<◌, ℕ, ◌+◌, false, List, [], ◌∷◌, ◌++◌, length, Option, Some, None, unwrap_or, slice_get, slice_set, slice_index}
use Rattle.std.specs.List.{AllByRecursion}
use Rattle.sw_logic.specs.declared.syntax.SymbolKind.{SymbolKind}
use Rattle.sw_logic.specs.declared.syntax.SymbolKind.TheVariants.{Relation, Constant, Function}
use Rattle.sw_logic.specs.declared.syntax.Symbol.{Symbol}
use Rattle.sw_logic.specs.declared.syntax.Term.{Term}
use Rattle.sw_logic.specs.declared.syntax.Term.TheVariants.{Apply}
use Rattle.sw_logic.specs.Truth.{size_of}
use Rattle.sw_truth.specs.declared.sets.Piece.{Piece}
use Rattle.sw_truth.specs.declared.sets.SkolemSet.{SkolemSet}
use Rattle.sw_universe.specs.declared.universe.Universe.{Universe}
use Rattle.sw_truth.specs.declared.instances.Instance.{Instance}
use Rattle.sw_truth.specs.declared.instances.Instance.TheVariants.{Of, Reflexive, Symmetric, Transitive, Congruent}
use Rattle.sw_truth.specs.Models.{AreOfSorts}
use Rattle.sw_universe.specs.ByNumber.{counts, term_at, terms_at}
use Rattle.sw_instances.specs.Named.{related, equated, Literal, plain, opposite}
use Rattle.sw_instances.specs.Matrix.{matrix_clauses}

-- a ground term of the sort
abbrev pub IsTerm : Universe → ℕ → ℕ → Type 0
IsTerm u sort n = n < size_of (counts u) sort

-- a ground term for each variable of the piece
abbrev pub AreTermsOf : Universe → Option Piece → List ℕ → Type 0
AreTermsOf u None ns = ⊥
AreTermsOf u (Some p) ns = AreOfSorts (counts u) p.vars ns

-- a ground term for each argument of the symbol, and one for the argument at the place
abbrev pub AreArgumentsOf : Universe → Option Symbol → ℕ → List ℕ → ℕ → Type 0
AreArgumentsOf u None place ns v = ⊥
AreArgumentsOf u (Some s) place ns v = (place < length s.args) × AreOfSorts (counts u) s.args ns × IsTerm u (slice_index s.args place) v

-- the instance's piece, sort, symbol, place and terms are there, with their right sorts and number
abbrev pub IsInstance : SkolemSet → Universe → Instance → Type 0
IsInstance set u (Of piece ns) = AreTermsOf u (slice_get set.pieces piece) ns
IsInstance set u (Reflexive sort t) = IsTerm u sort t
IsInstance set u (Symmetric sort t v) = IsTerm u sort t × IsTerm u sort v
IsInstance set u (Transitive sort t v w) = IsTerm u sort t × IsTerm u sort v × IsTerm u sort w
IsInstance set u (Congruent symbol place ns v) = AreArgumentsOf u (slice_get set.signature.symbols symbol) place ns v

abbrev pub equal : Term → Term → Literal
equal t u = plain (equated t u)

-- R(terms) -> R(others) for a relation, f(terms) = f(others) for a function
abbrev pub carried : SymbolKind → ℕ → List Term → List Term → List Literal
carried Relation symbol ts us = opposite (plain (related symbol ts)) ∷ plain (related symbol us) ∷ []
carried Constant symbol ts us = equal (Apply symbol false ts) (Apply symbol false us) ∷ []
carried Function symbol ts us = equal (Apply symbol false ts) (Apply symbol false us) ∷ []

-- terms[place] = u -> the symbol carries the equality
abbrev pub congruence : ℕ → SymbolKind → ℕ → List Term → Term → List Literal
congruence symbol kind place ts u =
    opposite (equal (unwrap_or (slice_get ts place) u) u) ∷ carried kind symbol ts (slice_set ts place u)

abbrev pub piece_clauses : Universe → Option Piece → List ℕ → List ℕ → List (List Literal)
piece_clauses u None ns path = []
piece_clauses u (Some p) ns path = matrix_clauses (terms_at u p.vars ns) p.matrix path

abbrev pub congruent_clauses : Universe → Option Symbol → ℕ → ℕ → List ℕ → ℕ → List (List Literal)
congruent_clauses u None symbol place ns v = []
congruent_clauses u (Some s) symbol place ns v =
    congruence symbol s.kind place (terms_at u s.args ns) (term_at u (slice_index s.args place) v) ∷ []

-- the clauses of an instance, whose parts have this path before their own
abbrev pub instance_clauses : SkolemSet → Universe → List ℕ → Instance → List (List Literal)
instance_clauses set u path (Of piece ns) = piece_clauses u (slice_get set.pieces piece) ns path
instance_clauses set u path (Reflexive sort t) = (equal (term_at u sort t) (term_at u sort t) ∷ []) ∷ []
instance_clauses set u path (Symmetric sort t v) =
    (opposite (equal (term_at u sort t) (term_at u sort v)) ∷ equal (term_at u sort v) (term_at u sort t) ∷ []) ∷ []
instance_clauses set u path (Transitive sort t v w) =
    (opposite (equal (term_at u sort t) (term_at u sort v)) ∷ opposite (equal (term_at u sort v) (term_at u sort w)) ∷ equal (term_at u sort t) (term_at u sort w) ∷ []) ∷ []
instance_clauses set u path (Congruent symbol place ns v) = congruent_clauses u (slice_get set.signature.symbols symbol) symbol place ns v

-- the clauses of instances in order, which are numbered from this one on
abbrev pub clauses_from : SkolemSet → Universe → ℕ → List Instance → List (List Literal)
clauses_from set u k [] = []
clauses_from set u k (i ∷ is) = instance_clauses set u (k ∷ []) i ++ clauses_from set u (k + 1) is

abbrev pub AreInstances : SkolemSet → Universe → List Instance → Type 0
AreInstances set u is = AllByRecursion (IsInstance set u) is
