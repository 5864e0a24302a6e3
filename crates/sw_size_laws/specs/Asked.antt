-- Under which lists, and about which formulas, the queries can be asked.
use Rattle.std.specs.Prelude.{true, false, List}
use Rattle.std.specs.List.{AllByRecursion}
use Rattle.sw_logic.specs.declared.syntax.Edge.{Edge}
use Rattle.sw_logic.specs.declared.syntax.Formula.{Formula}
use Rattle.sw_logic.specs.Queries.{IsSentence}
use Rattle.sw_meaning.specs.declared.protocol.Protocol.{Protocol}
use Rattle.sw_meaning.specs.WellFormed.{IsWellFormed}
use Rattle.sw_meaning.specs.Edges.{IsStratifiedWith}
use Rattle.sw_query_laws.specs.Edges.{AddsAmong}

-- sentences of a well-formed protocol that add edges of these alone, which have no cycle with the protocol's
pub record CanAskUnder (p : Protocol) (extra : List Edge) (list : List Formula) : Type 0 where
  pub well_formed : IsWellFormed p
  pub stratified : IsStratifiedWith p extra
  pub sorted : AllByRecursion (IsSentence p.signature) list
  pub edges : AllByRecursion (AddsAmong extra true) list

-- a sentence that adds edges of these alone, and its negation too
pub record CanAskAbout (p : Protocol) (extra : List Edge) (f : Formula) : Type 0 where
  pub sorted : IsSentence p.signature f
  pub edges : AddsAmong extra true f
  pub denied_edges : AddsAmong extra false f
