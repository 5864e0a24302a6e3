-- Edges between sorts, cycles, and ranks that rise along edges.
use Rattle.std.specs.Prelude.{◌≡◌, ℕ, ◌<◌, Bool, true, false, not, ◌||◌, List, [], ◌∷◌, ◌++◌, map, length, Contains, slice_index, if◌then◌else◌}
use Rattle.std.specs.List.{list_any, enumerate_from, flat_map, AllByRecursion}
use Rattle.sw_logic.specs.declared.syntax.SymbolKind.{SymbolKind}
use Rattle.sw_logic.specs.declared.syntax.SymbolKind.TheVariants.{Relation, Constant, Function}
use Rattle.sw_logic.specs.declared.syntax.Symbol.{Symbol}
use Rattle.sw_logic.specs.declared.syntax.Signature.{Signature}
use Rattle.sw_logic.specs.declared.syntax.Binder.{Binder}
use Rattle.sw_logic.specs.declared.syntax.Edge.{Edge}
use Rattle.sw_logic.specs.declared.syntax.Formula.{Formula}
use Rattle.sw_logic.specs.declared.syntax.Formula.TheOpen.{Formula-F}
use Rattle.sw_logic.specs.declared.syntax.Formula.TheFolds.{fold-Formula}
use Rattle.sw_logic.specs.declared.query.Polar.{Polar}
use Rattle.sw_logic.specs.Terms.{has}

abbrev pub edge : ℕ → ℕ → Edge
edge from to = record { from = from; to = to }

-- an edge from each of the one sorts to each of the others
abbrev pub edges_between : List ℕ → List ℕ → List Edge
edges_between from to = flat_map (λ a. map (edge a) to) from

-- a part: which variables occur in it; and the edges of the existential quantifiers of its negation normal form, or of its
-- negation's where not positive, where the variables in scope depend on universal variables of these sorts
pub record Part : Type 0 where
  pub occurs : ℕ → Bool
  pub edges : Bool → List (List ℕ) → List Edge

-- the sorts of the universal variables on which those that occur depend
abbrev pub depended : (ℕ → Bool) → List (List ℕ) → List ℕ
depended occurs scope = flat_map (λ v. if occurs v.0 then v.1 else []) (enumerate_from 0 scope)

abbrev pub sorts_of : List Binder → List ℕ
sorts_of binders = map (λ b. b.sort) binders

abbrev pub existential : List Binder → Part → Bool → List (List ℕ) → List Edge
existential binders p positive scope =
    edges_between (depended p.occurs scope) (sorts_of binders)
    ++ p.edges positive (scope ++ map (λ b. depended p.occurs scope) binders)

abbrev pub universal : List Binder → Part → Bool → List (List ℕ) → List Edge
universal binders p positive scope = p.edges positive (scope ++ map (λ b. b.sort ∷ []) binders)

abbrev pub no_edges : (ℕ → Bool) → Part
no_edges occurs = record { occurs = occurs; edges = λ positive scope. [] }

abbrev pub part_step : Formula-F Part → Part
part_step Formula-F.True = no_edges (λ x. false)
part_step Formula-F.False = no_edges (λ x. false)
part_step (Formula-F.Holds symbol post args) = no_edges (λ x. list_any (has x) args)
part_step (Formula-F.Equal a b) = no_edges (λ x. has x a || has x b)
part_step (Formula-F.Not p) = record { occurs = p.occurs; edges = λ positive scope. p.edges (not positive) scope }
part_step (Formula-F.All ps) = record {
  occurs = λ x. list_any (λ p. p.occurs x) ps;
  edges = λ positive scope. flat_map (λ p. p.edges positive scope) ps;
}
part_step (Formula-F.Any ps) = record {
  occurs = λ x. list_any (λ p. p.occurs x) ps;
  edges = λ positive scope. flat_map (λ p. p.edges positive scope) ps;
}
part_step (Formula-F.Implies p q) = record {
  occurs = λ x. p.occurs x || q.occurs x;
  edges = λ positive scope. p.edges (not positive) scope ++ q.edges positive scope;
}
part_step (Formula-F.Iff p q) = record {
  occurs = λ x. p.occurs x || q.occurs x;
  edges = λ positive scope. (p.edges true scope ++ p.edges false scope) ++ (q.edges true scope ++ q.edges false scope);
}
part_step (Formula-F.ForAll binders p) = record {
  occurs = p.occurs;
  edges = λ positive scope. if positive then universal binders p true scope else existential binders p false scope;
}
part_step (Formula-F.Exists binders p) = record {
  occurs = p.occurs;
  edges = λ positive scope. if positive then existential binders p true scope else universal binders p false scope;
}

-- the edges of a closed formula, or of its negation
abbrev pub formula_edges : Formula → Bool → List Edge
formula_edges f positive = (fold-Formula Part part_step f).edges positive []

-- from each argument's sort of a function to its value's sort
abbrev pub symbol_edges : SymbolKind → List ℕ → ℕ → List Edge
symbol_edges Relation args gives = []
symbol_edges Constant args gives = []
symbol_edges Function args gives = edges_between args (gives ∷ [])

abbrev pub function_edges : List Symbol → List Edge
function_edges symbols = flat_map (λ (s : Symbol). symbol_edges s.kind s.args s.gives) symbols

-- all edges of a signature and formulas
abbrev pub edges_of : Signature → List Polar → List Edge
edges_of sig formulas = function_edges sig.symbols ++ flat_map (λ (p : Polar). formula_edges p.formula p.positive) formulas

-- there is a path of one edge or more from one sort to another
pub data Leads (edges : List Edge) : ℕ → ℕ → Type 0 where
  step : (e : Edge) → Contains edges e → Leads edges e.from e.to
  onward : (a b c : ℕ) → Leads edges a b → Leads edges b c → Leads edges a c

-- the first declared sort that lies on a cycle
pub record FirstOnCycle (edges : List Edge) (sort : ℕ) : Type 0 where
  pub cycle : Leads edges sort sort
  pub first : (other : ℕ) → other < sort → Leads edges other other → ⊥

-- one rank for each sort, below the number of sorts, that rises along each edge
pub record AreRanks (sorts : ℕ) (edges : List Edge) (ranks : List ℕ) : Type 0 where
  pub count : length ranks ≡ sorts
  pub below : AllByRecursion (λ r. r < sorts) ranks
  pub rises : AllByRecursion (λ (e : Edge). slice_index ranks e.from < slice_index ranks e.to) edges

-- the functions of the signature have no cycle of sorts: some ranks rise along them
pub record IsStratified (sig : Signature) : Type 0 where
  pub ranks : List ℕ
  pub are : AreRanks (length sig.sorts) (function_edges sig.symbols) ranks

-- the edges are between sorts that there are
abbrev pub AreWithin : ℕ → List Edge → Type 0
AreWithin sorts edges = AllByRecursion (λ (e : Edge). (e.from < sorts) × (e.to < sorts)) edges
