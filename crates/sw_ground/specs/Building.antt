-- What the clauses of a part add to those that there are.
use Rattle.std.specs.Prelude.{◌≡◌, ℕ, true, false, List, [], ◌∷◌, ◌++◌, map, Contains, Some, slice_get}
use Rattle.sw_logic.specs.declared.syntax.Signature.{Signature}
use Rattle.sw_refute.specs.declared.clauses.Lit.{Lit}
use Rattle.sw_refute.specs.declared.clauses.Clause.{Clause}
use Rattle.sw_truth.specs.declared.sets.SkolemSet.{SkolemSet}
use Rattle.sw_universe.specs.declared.universe.Universe.{Universe}
use Rattle.sw_truth.specs.declared.instances.Atom.{Atom}
use Rattle.sw_truth.specs.Models.{AreOfSorts}
use Rattle.sw_ground.specs.declared.table.Table.{Table}
use Rattle.std.specs.List.{AllByRecursion, flat_map}
use Rattle.sw_logic.specs.declared.syntax.Formula.{Formula}
use Rattle.sw_logic.specs.Sorted.{well_sorted}
use Rattle.sw_instances.specs.Matrix.{Encoded, encoded, parts_at}
use Rattle.sw_universe.specs.ByNumber.{counts, terms_at, AreDistinct, AreApart}
use Rattle.sw_instances.specs.Named.{Name, inner, Literal}
use Rattle.sw_instances.specs.Numbered.{Beside, InOrder, IsLiteral, IsClause, names_in, once}
use Rattle.sw_numbers.specs.Numbers.{IsIndexed}
use Rattle.sw_ground.specs.Indexed.{IsNumbering}

-- the clause of these literals
abbrev pub clause_of : List Lit → Clause
clause_of ls = record { lits = once ls }

-- the ground terms and their numbers, and values of the variables
pub record IsAround (set : SkolemSet) (u : Universe) (sig : Signature) (sizes firsts vars ns : List ℕ) : Type 0 where
  pub signature : set.signature ≡ sig
  pub counted : sizes ≡ counts u
  pub indexed : IsIndexed sig u firsts
  pub distinct : AreDistinct u
  pub apart : AreApart u
  pub values : AreOfSorts (counts u) vars ns

-- no inner part at the path or behind it has a variable
abbrev pub IsFree : List Name → List ℕ → Type 0
IsFree names path = (q : List ℕ) → Contains names (inner (path ++ q)) → ⊥

-- none but this one has
abbrev pub IsFreeBut : List Name → List ℕ → Name → Type 0
IsFreeBut names path n = (q : List ℕ) → Contains names (inner (path ++ q)) → inner (path ++ q) ≡ n

-- the literals of parts in a row
pub record NumbersAll (set : SkolemSet) (u : Universe) (table : Table) (atoms : List Atom) (names : List Name) (ls : List Literal) (lits : List Lit) : Type 0 where
  pub after : List Name
  pub order : InOrder names (map (λ l. l.name) ls) after
  pub numbering : IsNumbering set u table atoms after
  pub literals : Beside (IsLiteral after) ls lits

-- the clauses so far are these
pub record IsBuilt (set : SkolemSet) (u : Universe) (table : Table) (atoms : List Atom) (clauses : List Clause) (names : List Name) (named : List (List Literal)) : Type 0 where
  pub numbering : IsNumbering set u table atoms names
  pub made : Beside (IsClause names) named clauses

-- the clauses so far and these behind them
pub record Emits (set : SkolemSet) (u : Universe) (table : Table) (atoms : List Atom) (clauses : List Clause) (names : List Name) (named added : List (List Literal)) : Type 0 where
  pub after : List Name
  pub order : InOrder names (names_in added) after
  pub built : IsBuilt set u table atoms clauses after (named ++ added)

-- literals of these parts in a row, numbered behind any names in which their inner parts are free
abbrev pub AreLiterals : Signature → List ℕ → List ℕ → List ℕ → List ℕ → Table → List Atom → Table → List Atom → List Formula → List Lit → Type 0
AreLiterals sig sizes firsts vars ns table atoms after more parts lits =
    (set : SkolemSet) (u : Universe) (names : List Name) (path : List ℕ) → IsAround set u sig sizes firsts vars ns
    → AllByRecursion (λ (p : Formula). well_sorted sig false p vars ≡ true) parts
    → IsNumbering set u table atoms names → ((k : ℕ) → IsFree names (path ++ k ∷ []))
    → NumbersAll set u after more names (map (λ (e : Encoded). e.literal) (parts_at path 0 (map (encoded (terms_at u vars ns)) parts))) lits

-- the clauses that say what the literal of a part implies, behind any clauses over names in which its inner parts are free
abbrev pub EmitsInside : Signature → List ℕ → List ℕ → List ℕ → List ℕ → Table → List Atom → List Clause → Table → List Atom → List Clause → Formula → Lit → Type 0
EmitsInside sig sizes firsts vars ns table atoms clauses t a c part lit =
    (set : SkolemSet) (u : Universe) (names : List Name) (named : List (List Literal)) (path : List ℕ) → IsAround set u sig sizes firsts vars ns
    → well_sorted sig false part vars ≡ true → IsBuilt set u table atoms clauses names named
    → IsFreeBut names path (encoded (terms_at u vars ns) part path).literal.name → IsLiteral names (encoded (terms_at u vars ns) part path).literal lit
    → Emits set u t a c names named (encoded (terms_at u vars ns) part path).inside

-- the same of parts in a row
abbrev pub EmitsInsides : Signature → List ℕ → List ℕ → List ℕ → List ℕ → Table → List Atom → List Clause → Table → List Atom → List Clause → List Formula → List Lit → Type 0
EmitsInsides sig sizes firsts vars ns table atoms clauses t a c parts lits =
    (set : SkolemSet) (u : Universe) (names : List Name) (named : List (List Literal)) (path : List ℕ) → IsAround set u sig sizes firsts vars ns
    → AllByRecursion (λ (p : Formula). well_sorted sig false p vars ≡ true) parts → IsBuilt set u table atoms clauses names named
    → ((k : ℕ) (p : Formula) → slice_get parts k ≡ Some p → IsFreeBut names (path ++ k ∷ []) (encoded (terms_at u vars ns) p (path ++ k ∷ [])).literal.name)
    → Beside (IsLiteral names) (map (λ (e : Encoded). e.literal) (parts_at path 0 (map (encoded (terms_at u vars ns)) parts))) lits
    → Emits set u t a c names named (flat_map (λ (e : Encoded). e.inside) (parts_at path 0 (map (encoded (terms_at u vars ns)) parts)))

-- the clauses of a part at the top, behind any clauses over names in which its inner parts are free
abbrev pub EmitsTop : Signature → List ℕ → List ℕ → List ℕ → List ℕ → Table → List Atom → List Clause → Table → List Atom → List Clause → Formula → Type 0
EmitsTop sig sizes firsts vars ns table atoms clauses t a c part =
    (set : SkolemSet) (u : Universe) (names : List Name) (named : List (List Literal)) (path : List ℕ) → IsAround set u sig sizes firsts vars ns
    → well_sorted sig false part vars ≡ true → IsBuilt set u table atoms clauses names named → IsFree names path
    → Emits set u t a c names named (encoded (terms_at u vars ns) part path).top

-- the literal of a part as a clause, and what it implies
abbrev pub EmitsSingle : Signature → List ℕ → List ℕ → List ℕ → List ℕ → Table → List Atom → List Clause → Table → List Atom → List Clause → Formula → Type 0
EmitsSingle sig sizes firsts vars ns table atoms clauses t a c part =
    (set : SkolemSet) (u : Universe) (names : List Name) (named : List (List Literal)) (path : List ℕ) → IsAround set u sig sizes firsts vars ns
    → well_sorted sig false part vars ≡ true → IsBuilt set u table atoms clauses names named → IsFree names path
    → Emits set u t a c names named (((encoded (terms_at u vars ns) part path).literal ∷ []) ∷ (encoded (terms_at u vars ns) part path).inside)

-- the clauses of parts in a row at the top
abbrev pub EmitsTops : Signature → List ℕ → List ℕ → List ℕ → List ℕ → Table → List Atom → List Clause → Table → List Atom → List Clause → List Formula → Type 0
EmitsTops sig sizes firsts vars ns table atoms clauses t a c parts =
    (set : SkolemSet) (u : Universe) (names : List Name) (named : List (List Literal)) (path : List ℕ) → IsAround set u sig sizes firsts vars ns
    → AllByRecursion (λ (p : Formula). well_sorted sig false p vars ≡ true) parts → IsBuilt set u table atoms clauses names named
    → ((k : ℕ) → IsFree names (path ++ k ∷ []))
    → Emits set u t a c names named (flat_map (λ (e : Encoded). e.top) (parts_at path 0 (map (encoded (terms_at u vars ns)) parts)))
