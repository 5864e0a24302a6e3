-- The queries of a formula can be decided.
use Rattle.std.specs.Prelude.{◌≡◌, ℕ, ◌++◌, List, length, Some, slice_get}
use Rattle.sw_lists.proofs.Members.{get_contains}
use Rattle.sw_logic.specs.declared.syntax.Formula.{Formula}
use Rattle.sw_logic.specs.declared.syntax.Edge.{Edge}
use Rattle.sw_logic.specs.Strata.{AreRanks}
use Rattle.sw_logic.specs.Queries.{IsQuery}
use Rattle.sw_meaning.specs.declared.protocol.Protocol.{Protocol}
use Rattle.sw_meaning.specs.declared.protocol.Transition.{Transition}
use Rattle.sw_meaning.specs.WellFormed.{IsWellFormed}
use Rattle.sw_meaning.specs.Edges.{protocol_edges}
use Rattle.sw_ground.specs.Verdict.{IsStratifiedQuery}
use Rattle.sw_queries.specs.Queries.{start_query_of, follow_query_of, step_query_of}
use Rattle.sw_query_laws.specs.Edges.{query_edges, AreAmong}
use Rattle.sw_query_laws.proofs.AreQueries.{queries_are_sorted}
use Rattle.sw_query_laws.proofs.Edging.{queries_add_no_edges, ranks_rise_among}
use Rattle.sw_examine.specs.Answers.{CanAsk}

module _ (p : Protocol) (g : List Formula) (f : Formula) (ok : IsWellFormed p) (can : CanAsk p g f) where
  pub start_query_is : IsQuery (start_query_of p f)
  start_query_is = queries_are_sorted.start p f ok can.sorted

  pub follow_query_is : IsQuery (follow_query_of p g f)
  follow_query_is = queries_are_sorted.follow p g f ok can.list_sorted can.sorted

  pub step_query_is : (n : ℕ) (t : Transition) → slice_get p.transitions n ≡ Some t → IsQuery (step_query_of p t g f)
  step_query_is n t e = queries_are_sorted.step p t g f ok (get_contains p.transitions n t e) can.list_sorted can.sorted

  ranks_among : (edges : List Edge) → AreAmong edges (protocol_edges p ++ can.extra) → AreRanks (length p.signature.sorts) edges can.stratified.ranks
  ranks_among edges among = ranks_rise_among (length p.signature.sorts) edges (protocol_edges p ++ can.extra) can.stratified.ranks among can.stratified.are

  pub start_query_stratified : IsStratifiedQuery (start_query_of p f)
  start_query_stratified = record { ranks = can.stratified.ranks; are = ranks_among (query_edges (start_query_of p f)) (queries_add_no_edges.start p f can.extra can.denied_edges) }

  pub follow_query_stratified : IsStratifiedQuery (follow_query_of p g f)
  follow_query_stratified = record { ranks = can.stratified.ranks; are = ranks_among (query_edges (follow_query_of p g f)) (queries_add_no_edges.follow p g f can.extra can.list_edges can.denied_edges) }

  pub step_query_stratified : (n : ℕ) (t : Transition) → slice_get p.transitions n ≡ Some t → IsStratifiedQuery (step_query_of p t g f)
  step_query_stratified n t e = record {
    ranks = can.stratified.ranks;
    are = ranks_among (query_edges (step_query_of p t g f)) (queries_add_no_edges.step p t g f can.extra (get_contains p.transitions n t e) can.list_edges can.edges can.denied_edges);
  }
