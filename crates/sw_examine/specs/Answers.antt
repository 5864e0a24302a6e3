-- What the decision of a query says, and which queries can be decided.
use Rattle.std.specs.Prelude.{ℕ, true, false, List, Option}
use Rattle.std.specs.List.{AllByRecursion}
use Rattle.sw_logic.specs.declared.syntax.Edge.{Edge}
use Rattle.sw_logic.specs.declared.syntax.Formula.{Formula}
use Rattle.sw_logic.specs.declared.structure.Structure.{Structure}
use Rattle.sw_logic.specs.declared.query.Query.{Query}
use Rattle.sw_logic.specs.Queries.{IsSentence, Satisfies}
use Rattle.sw_meaning.specs.declared.protocol.Protocol.{Protocol}
use Rattle.sw_meaning.specs.Edges.{IsStratifiedWith}
use Rattle.sw_query_laws.specs.Edges.{AddsAmong}
use Rattle.sw_truth.specs.declared.instances.Refutation.{Refutation}
use Rattle.sw_decide.specs.declared.decision.Decision.{Decision}
use Rattle.sw_decide.specs.declared.decision.Decision.TheVariants.{Refuted, Found, Spent, TooLarge}
use Rattle.sw_decide.specs.Decision.{IsRefutationOf, HasNoStructure}
pub use Rattle.sw_decide.specs.Known.{IsWithin, IsSpentBy, IsTooLargeBy}

-- an accepted refutation: no structure satisfies the query
pub record IsRefutedBy (q : Query) (budget : Option ℕ) (r : Refutation) : Type 0 where
  pub within : IsWithin q
  pub refutation : IsRefutationOf q budget r
  pub none : HasNoStructure q

pub record IsMetBy (q : Query) (s : Structure) : Type 0 where
  pub within : IsWithin q
  pub satisfies : Satisfies q s

abbrev pub IsAnswer : Query → Option ℕ → Decision → Type 0
IsAnswer q budget (Refuted r) = IsRefutedBy q budget r
IsAnswer q budget (Found s) = IsMetBy q s
IsAnswer q budget (Spent r) = IsSpentBy q budget r
IsAnswer q budget (TooLarge size) = IsTooLargeBy q size

-- sentences of the protocol, whose edges and the protocol's have no cycle
pub record CanAsk (p : Protocol) (g : List Formula) (f : Formula) : Type 0 where
  pub extra : List Edge
  pub stratified : IsStratifiedWith p extra
  pub list_sorted : AllByRecursion (IsSentence p.signature) g
  pub list_edges : AllByRecursion (AddsAmong extra true) g
  pub sorted : IsSentence p.signature f
  pub edges : AddsAmong extra true f
  pub denied_edges : AddsAmong extra false f
