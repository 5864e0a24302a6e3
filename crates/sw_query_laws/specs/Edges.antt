-- The edges of a query, and edges that lie among others.
use Rattle.std.specs.Prelude.{Bool, List, map, Contains}
use Rattle.std.specs.List.{AllByRecursion}
use Rattle.sw_logic.specs.declared.syntax.Edge.{Edge}
use Rattle.sw_logic.specs.declared.syntax.Formula.{Formula}
use Rattle.sw_logic.specs.declared.query.Query.{Query}
use Rattle.sw_logic.specs.Strata.{formula_edges, edges_of}
use Rattle.sw_meaning.specs.Edges.{asserted}

-- the edges of the signature's functions and of the sentences
abbrev pub query_edges : Query → List Edge
query_edges q = edges_of q.signature (map asserted q.sentences)

-- each of the one edges is one of the others
abbrev pub AreAmong : List Edge → List Edge → Type 0
AreAmong edges all = AllByRecursion (Contains all) edges

-- what the formula, or its negation where not positive, adds is among these edges
abbrev pub AddsAmong : List Edge → Bool → Formula → Type 0
AddsAmong all positive f = AreAmong (formula_edges f positive) all
