-- The join queries of a formula can be decided.
use Rattle.std.specs.Prelude.{◌≡◌, ℕ, ◌++◌, List, length, Some, slice_get}
use Rattle.sw_lists.proofs.Members.{get_contains}
use Rattle.sw_logic.specs.declared.syntax.Formula.{Formula}
use Rattle.sw_logic.specs.Queries.{IsQuery}
use Rattle.sw_meaning.specs.declared.protocol.Protocol.{Protocol}
use Rattle.sw_meaning.specs.declared.protocol.Transition.{Transition}
use Rattle.sw_meaning.specs.WellFormed.{IsWellFormed}
use Rattle.sw_meaning.specs.Edges.{protocol_edges}
use Rattle.sw_ground.specs.Verdict.{IsStratifiedQuery}
use Rattle.sw_query_laws.specs.Edges.{query_edges}
use Rattle.sw_query_laws.proofs.AreQueries.{queries_are_sorted}
use Rattle.sw_query_laws.proofs.Edging.{queries_add_no_edges, ranks_rise_among}
use Rattle.sw_examine.specs.Answers.{CanAsk}
use Rattle.sw_join.specs.Joining.{join_of}

module _ (p : Protocol) (g : List Formula) (f : Formula) (can : CanAsk p g f) (n : ℕ) (t : Transition) (e : slice_get p.transitions n ≡ Some t) where
  pub join_is_query : IsWellFormed p → IsQuery (join_of p g f t)
  join_is_query ok = queries_are_sorted.join p t g (Some f) ok (get_contains p.transitions n t e) can.list_sorted can.sorted

  pub join_is_stratified : IsStratifiedQuery (join_of p g f t)
  join_is_stratified = record {
    ranks = can.stratified.ranks;
    are = ranks_rise_among (length p.signature.sorts) (query_edges (join_of p g f t)) (protocol_edges p ++ can.extra) can.stratified.ranks
        (queries_add_no_edges.join p t g (Some f) can.extra (get_contains p.transitions n t e) can.list_edges can.edges can.denied_edges) can.stratified.are;
  }
