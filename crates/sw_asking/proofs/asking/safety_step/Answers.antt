use Rattle.std.proofs.Common.{◌≡◌, []}
use Rattle.std.specs.Prelude.{None, Some, slice_get}
use Rattle.std.proofs.lemmas.Result.{IfOk-weaker}
use Rattle.sw_logic.specs.Queries.{IsQuery}
use Rattle.sw_ground.specs.Verdict.{IsStratifiedQuery}
use Rattle.sw_logic.specs.declared.query.Query.{Query}
use Rattle.sw_meaning.specs.declared.protocol.Transition.{Transition}
use Rattle.sw_queries.specs.Queries.{join_query_of}
use Rattle.sw_asking.proofs.Asked.{step_is_query, step_is_stratified}
use Rattle.sw_asking.proofs.asking.safety_step.Goals as goal

pub returns-clause-query : goal.returns-clause-query
returns-clause-query c =
    let p = c.args.protocol.now in
    let i = c.args.transition in
    IfOk-weaker c.join_query.result (λ (q : Query). (t : Transition) → slice_get p.transitions i ≡ Some t → q ≡ join_query_of p t [] None) IsQuery
    (λ q is. step_is_query p c.ranks_rise_among.ensures c.requires.strata i c.requires.transition q is c.queries_are_sorted.ensures c.requires.well_formed)
    c.join_query.ensures

pub returns-clause-strata : goal.returns-clause-strata
returns-clause-strata c =
    let p = c.args.protocol.now in
    let i = c.args.transition in
    IfOk-weaker c.join_query.result (λ (q : Query). (t : Transition) → slice_get p.transitions i ≡ Some t → q ≡ join_query_of p t [] None) IsStratifiedQuery
    (λ q is. step_is_stratified p c.ranks_rise_among.ensures c.requires.strata i c.requires.transition q is c.queries_add_no_edges.ensures)
    c.join_query.ensures
