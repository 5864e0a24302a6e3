-- What an instance adds to the clauses that there are.
use Rattle.std.specs.Prelude.{◌≡◌, ℕ, true, false, List, [], ◌∷◌, ◌++◌, map, Some, slice_get}
use Rattle.std.specs.List.{AllByRecursion}
use Rattle.sw_logic.specs.declared.syntax.SymbolKind.{SymbolKind}
use Rattle.sw_logic.specs.declared.syntax.Symbol.{Symbol}
use Rattle.sw_logic.specs.declared.syntax.Signature.{Signature}
use Rattle.sw_logic.specs.Sorted.{well_sorted}
use Rattle.sw_logic.specs.Truth.{args_of}
use Rattle.sw_refute.specs.declared.clauses.Lit.{Lit}
use Rattle.sw_refute.specs.declared.clauses.Clause.{Clause}
use Rattle.sw_truth.specs.declared.sets.Piece.{Piece}
use Rattle.sw_truth.specs.declared.sets.SkolemSet.{SkolemSet}
use Rattle.sw_universe.specs.declared.universe.Universe.{Universe}
use Rattle.sw_truth.specs.declared.instances.Atom.{Atom}
use Rattle.sw_truth.specs.declared.instances.Instance.{Instance}
use Rattle.sw_truth.specs.Models.{AreOfSorts}
use Rattle.sw_ground.specs.declared.table.Table.{Table}
use Rattle.sw_universe.specs.ByNumber.{counts, term_at, terms_at, IsTerm}
use Rattle.sw_instances.specs.Named.{Name, related, equated, Literal, plain, opposite}
use Rattle.sw_instances.specs.Instances.{IsInstance, instance_clauses, clauses_from, carried}
use Rattle.sw_instances.specs.Numbered.{InOrder, names_in, IsLiteral}
use Rattle.sw_ground.specs.Indexed.{IsNumbering, Numbers}
use Rattle.sw_ground.specs.Building.{IsAround, IsFree, IsBuilt, Emits}

-- the literal of an equality of two ground terms of a sort, numbered behind any names
abbrev pub NumbersEqual : Signature → List ℕ → List ℕ → Table → List Atom → Table → List Atom → ℕ → ℕ → ℕ → Lit → Type 0
NumbersEqual sig sizes firsts table atoms after more sort t v lit =
    (set : SkolemSet) (u : Universe) (names : List Name) → IsAround set u sig sizes firsts [] [] → IsNumbering set u table atoms names
    → IsTerm u sort t → IsTerm u sort v → Numbers set u after more names (plain (equated (term_at u sort t) (term_at u sort v))) lit

-- the literal of a relation at ground terms, numbered behind any names
abbrev pub NumbersRelated : Signature → List ℕ → List ℕ → Table → List Atom → Table → List Atom → ℕ → List ℕ → Lit → Type 0
NumbersRelated sig sizes firsts table atoms after more symbol ns lit =
    (set : SkolemSet) (u : Universe) (names : List Name) → IsAround set u sig sizes firsts [] [] → IsNumbering set u table atoms names
    → AreOfSorts (counts u) (args_of sig symbol) ns → Numbers set u after more names (plain (related symbol (terms_at u (args_of sig symbol) ns))) lit

-- one more clause: the negation of a literal that is numbered, and these behind it
pub record Implies (set : SkolemSet) (u : Universe) (table : Table) (atoms : List Atom) (clauses : List Clause) (names : List Name) (named : List (List Literal)) (l : Literal) (rest : List Literal) : Type 0 where
  pub after : List Name
  pub order : InOrder names (map (λ k. k.name) rest) after
  pub built : IsBuilt set u table atoms clauses after (named ++ (opposite l ∷ rest) ∷ [])

-- a literal implies that a symbol of this kind carries one tuple of ground terms to another
abbrev pub EmitsCarried : (SymbolKind → Type 0) → Signature → List ℕ → List ℕ → Table → List Atom → List Clause → Table → List Atom → List Clause → ℕ → List ℕ → List ℕ → Lit → Type 0
EmitsCarried IsKind sig sizes firsts table atoms clauses t a c symbol ns ms lit =
    (set : SkolemSet) (u : Universe) (names : List Name) (named : List (List Literal)) (s : Symbol) (l : Literal) → IsAround set u sig sizes firsts [] []
    → slice_get sig.symbols symbol ≡ Some s → IsKind s.kind → AreOfSorts (counts u) s.args ns → AreOfSorts (counts u) s.args ms
    → IsBuilt set u table atoms clauses names named → IsLiteral names l lit
    → Implies set u t a c names named l (carried s.kind symbol (terms_at u s.args ns) (terms_at u s.args ms))

-- the pieces of the set are well sorted
abbrev pub AreSorted : SkolemSet → Type 0
AreSorted set = AllByRecursion (λ (p : Piece). well_sorted set.signature false p.matrix p.vars ≡ true) set.pieces

-- the clauses of an instance, behind any clauses over names in which its inner parts are free
abbrev pub EmitsInstance : SkolemSet → Signature → List ℕ → List ℕ → Table → List Atom → List Clause → Table → List Atom → List Clause → Instance → Type 0
EmitsInstance set sig sizes firsts table atoms clauses t a c i =
    (u : Universe) (names : List Name) (named : List (List Literal)) (path : List ℕ) → IsAround set u sig sizes firsts [] [] → AreSorted set → IsInstance set u i
    → IsBuilt set u table atoms clauses names named → IsFree names path → Emits set u t a c names named (instance_clauses set u path i)

-- the clauses so far are those of these instances
pub record IsSoFar (set : SkolemSet) (u : Universe) (table : Table) (atoms : List Atom) (clauses : List Clause) (is : List Instance) : Type 0 where
  pub names : List Name
  pub order : InOrder [] (names_in (clauses_from set u 0 is)) names
  pub built : IsBuilt set u table atoms clauses names (clauses_from set u 0 is)
