-- What instances say, and whether it is true under a valuation of ground atoms.
use Rattle.std.specs.Prelude.{◌≡◌, ℕ, List, Some, slice_get, slice_index, slice_set, IsTrue}
use Rattle.sw_logic.specs.declared.syntax.SymbolKind.{SymbolKind}
use Rattle.sw_logic.specs.declared.syntax.SymbolKind.TheVariants.{Relation, Constant, Function}
use Rattle.sw_logic.specs.declared.syntax.Symbol.{Symbol}
use Rattle.sw_logic.specs.declared.syntax.Signature.{Signature}
use Rattle.sw_truth.specs.declared.sets.Piece.{Piece}
use Rattle.sw_truth.specs.declared.sets.SkolemSet.{SkolemSet}
use Rattle.sw_truth.specs.declared.instances.Instance.{Instance}
use Rattle.sw_truth.specs.declared.instances.Instance.TheVariants.{Of, Reflexive, Symmetric, Transitive, Congruent}
use Rattle.sw_universe.specs.declared.universe.Universe.{Universe}
use Rattle.sw_instances.specs.Instances.{IsInstance}
use Rattle.sw_quotient.specs.Terms.{Numbering, numbering, number}
use Rattle.sw_quotient.specs.Valuations.{Valuation, ground_truth}

-- a relation that is true of the one tuple is true of the other, and a function's values are equal
abbrev pub IsKept : Signature → Numbering → Valuation → ℕ → SymbolKind → ℕ → List ℕ → List ℕ → Type 0
IsKept sig n v f Relation gives ts us = IsTrue (v.holds f ts) → IsTrue (v.holds f us)
IsKept sig n v f Constant gives ts us = IsTrue (v.equal gives (number sig n f ts) (number sig n f us))
IsKept sig n v f Function gives ts us = IsTrue (v.equal gives (number sig n f ts) (number sig n f us))

-- what an instance says
abbrev pub IsTrueInstance : SkolemSet → Numbering → Valuation → Instance → Type 0
IsTrueInstance set n v (Of p ts) =
    (piece : Piece) → slice_get set.pieces p ≡ Some piece → IsTrue (ground_truth set.signature n v piece.vars piece.matrix ts)
IsTrueInstance set n v (Reflexive sort t) = IsTrue (v.equal sort t t)
IsTrueInstance set n v (Symmetric sort t u) = IsTrue (v.equal sort t u) → IsTrue (v.equal sort u t)
IsTrueInstance set n v (Transitive sort t u w) = IsTrue (v.equal sort t u) → IsTrue (v.equal sort u w) → IsTrue (v.equal sort t w)
IsTrueInstance set n v (Congruent f place ts u) =
    (s : Symbol) → slice_get set.signature.symbols f ≡ Some s → IsTrue (v.equal (slice_index s.args place) (slice_index ts place) u)
    → IsKept set.signature n v f s.kind s.gives ts (slice_set ts place u)

-- an instance of equality, and not of a piece
abbrev pub IsOfEquality : Instance → Type 0
IsOfEquality (Of p ts) = ⊥
IsOfEquality (Reflexive sort t) = Unit {0}
IsOfEquality (Symmetric sort t u) = Unit {0}
IsOfEquality (Transitive sort t u v) = Unit {0}
IsOfEquality (Congruent f place ts u) = Unit {0}

-- every instance of equality is true
abbrev pub AreEqualitiesTrue : SkolemSet → Universe → List ℕ → Valuation → Type 0
AreEqualitiesTrue set u firsts v = (i : Instance) → IsOfEquality i → IsInstance set u i → IsTrueInstance set (numbering u firsts) v i

-- every instance of a piece is true
abbrev pub ArePiecesTrue : SkolemSet → Universe → List ℕ → Valuation → Type 0
ArePiecesTrue set u firsts v = (p : ℕ) (ts : List ℕ) → IsInstance set u (Of p ts) → IsTrueInstance set (numbering u firsts) v (Of p ts)
