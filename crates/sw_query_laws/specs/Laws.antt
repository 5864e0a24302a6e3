-- The laws of the queries: what a structure of each shows, that each is a query, and which edges it has.
use Rattle.std.specs.Prelude.{◌↔◌, ℕ, true, false, List, [], ◌∷◌, ◌++◌, Option, Contains}
use Rattle.std.specs.List.{AllByRecursion}
use Rattle.std.specs.Option.{IfSome}
use Rattle.sw_logic.specs.declared.syntax.Edge.{Edge}
use Rattle.sw_logic.specs.declared.syntax.Formula.{Formula}
use Rattle.sw_logic.specs.declared.structure.Structure.{Structure}
use Rattle.sw_logic.specs.declared.structure.Pair.{Pair}
use Rattle.sw_logic.specs.Truth.{AreTrueIn}
use Rattle.sw_logic.specs.Queries.{IsSentence, IsQuery, Satisfies}
use Rattle.sw_logic.specs.Strata.{AreRanks}
use Rattle.sw_meaning.specs.declared.protocol.Protocol.{Protocol}
use Rattle.sw_meaning.specs.declared.protocol.Transition.{Transition}
use Rattle.sw_meaning.specs.Runs.{Start}
use Rattle.sw_meaning.specs.WellFormed.{IsTransition, IsWellFormed}
use Rattle.sw_queries.specs.Queries.{start_query_of, follow_query_of, safety_start_query_of, step_query_of, join_query_of, with_joined}
use Rattle.sw_queries.specs.Counterexamples.{FalseAtStart, DoesNotFollow, Leaves, pair_in, arguments_in, joined}
use Rattle.sw_meaning.specs.Edges.{protocol_edges}
use Rattle.sw_query_laws.specs.Edges.{query_edges, AreAmong, AddsAmong}

abbrev pub StartQueryMeans : Type 0
StartQueryMeans = (p : Protocol) (f : Formula) (s : Structure) → Satisfies (start_query_of p f) s ↔ FalseAtStart p f s

abbrev pub FollowQueryMeans : Type 0
FollowQueryMeans = (p : Protocol) (g : List Formula) (f : Formula) (s : Structure) → Satisfies (follow_query_of p g f) s ↔ DoesNotFollow p g f s

abbrev pub SafetyStartQueryMeans : Type 0
SafetyStartQueryMeans = (p : Protocol) (s : Structure) → Satisfies (safety_start_query_of p) s ↔ (Start p s × (AreTrueIn p.signature s p.safeties → ⊥))

-- a structure of a step's query is a step that leaves the formula, and each such step is one
pub record StepQueryMeansOf (p : Protocol) (t : Transition) (g : List Formula) (f : Formula) : Type 0 where
  pub to : (s : Structure) → Satisfies (step_query_of p t g f) s → Leaves p t (g ++ f ∷ []) (f ∷ []) (pair_in p t s) (arguments_in p t s)
  pub from : (pair : Pair) (arguments : List ℕ) → Leaves p t (g ++ f ∷ []) (f ∷ []) pair arguments → Satisfies (step_query_of p t g f) (joined p t pair arguments)

abbrev pub StepQueryMeans : Type 0
StepQueryMeans = (p : Protocol) (t : Transition) (g : List Formula) (f : Formula) → IsTransition p.signature t → StepQueryMeansOf p t g f

-- a structure of a join's query is a step that leaves safety or the formula, and each such step is one
pub record JoinQueryMeansOf (p : Protocol) (t : Transition) (g : List Formula) (f : Option Formula) : Type 0 where
  pub to : (s : Structure) → Satisfies (join_query_of p t g f) s → Leaves p t (with_joined (g ++ p.safeties) f) (with_joined p.safeties f) (pair_in p t s) (arguments_in p t s)
  pub from : (pair : Pair) (arguments : List ℕ) → Leaves p t (with_joined (g ++ p.safeties) f) (with_joined p.safeties f) pair arguments → Satisfies (join_query_of p t g f) (joined p t pair arguments)

abbrev pub JoinQueryMeans : Type 0
JoinQueryMeans = (p : Protocol) (t : Transition) (g : List Formula) (f : Option Formula) → IsTransition p.signature t → JoinQueryMeansOf p t g f

-- the queries of a well-formed protocol, and of sentences of its signature, are of sentences of their own
pub record QueriesAreSorted : Type 0 where
  pub start : (p : Protocol) (f : Formula) → IsWellFormed p → IsSentence p.signature f → IsQuery (start_query_of p f)
  pub follow : (p : Protocol) (g : List Formula) (f : Formula) → IsWellFormed p → AllByRecursion (IsSentence p.signature) g → IsSentence p.signature f → IsQuery (follow_query_of p g f)
  pub step : (p : Protocol) (t : Transition) (g : List Formula) (f : Formula) → IsWellFormed p → Contains p.transitions t → AllByRecursion (IsSentence p.signature) g → IsSentence p.signature f
      → IsQuery (step_query_of p t g f)
  pub join : (p : Protocol) (t : Transition) (g : List Formula) (f : Option Formula) → IsWellFormed p → Contains p.transitions t → AllByRecursion (IsSentence p.signature) g → IfSome f (IsSentence p.signature)
      → IsQuery (join_query_of p t g f)
  pub safety_start : (p : Protocol) → IsWellFormed p → IsQuery (safety_start_query_of p)

-- where the list's formulas and both signs of the candidate add edges of these alone, a query has none but those and the protocol's
pub record QueriesAddNoEdges : Type 0 where
  pub start : (p : Protocol) (f : Formula) (extra : List Edge) → AddsAmong extra false f → AreAmong (query_edges (start_query_of p f)) (protocol_edges p ++ extra)
  pub follow : (p : Protocol) (g : List Formula) (f : Formula) (extra : List Edge) → AllByRecursion (AddsAmong extra true) g → AddsAmong extra false f
      → AreAmong (query_edges (follow_query_of p g f)) (protocol_edges p ++ extra)
  pub step : (p : Protocol) (t : Transition) (g : List Formula) (f : Formula) (extra : List Edge) → Contains p.transitions t → AllByRecursion (AddsAmong extra true) g → AddsAmong extra true f → AddsAmong extra false f
      → AreAmong (query_edges (step_query_of p t g f)) (protocol_edges p ++ extra)
  pub join : (p : Protocol) (t : Transition) (g : List Formula) (f : Option Formula) (extra : List Edge) → Contains p.transitions t → AllByRecursion (AddsAmong extra true) g
      → IfSome f (AddsAmong extra true) → IfSome f (AddsAmong extra false) → AreAmong (query_edges (join_query_of p t g f)) (protocol_edges p ++ extra)
  pub safety_start : (p : Protocol) (extra : List Edge) → AreAmong (query_edges (safety_start_query_of p)) (protocol_edges p ++ extra)

-- ranks that rise along edges rise along those that lie among them
abbrev pub RanksRiseAmong : Type 0
RanksRiseAmong = (sorts : ℕ) (edges all : List Edge) (ranks : List ℕ) → AreAmong edges all → AreRanks sorts all ranks → AreRanks sorts edges ranks
