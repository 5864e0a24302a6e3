use Rattle.std.proofs.Common.{◌≡◌, [], refl, sym, subst}
use Rattle.std.proofs.lemmas.Result.{IfOk-weaker}
use Rattle.sw_ground.specs.Verdict.{IsStratifiedQuery}
use Rattle.sw_logic.specs.declared.query.Query.{Query}
use Rattle.sw_queries.specs.Queries.{safety_start_query_of}
use Rattle.sw_asking.proofs.Asked.{stratified}
use Rattle.sw_asking.proofs.asking.safety_at_start.Goals as goal

pub returns-clause-strata : goal.returns-clause-strata
returns-clause-strata c =
    let p = c.args.protocol.now in
    let asked = safety_start_query_of p in
    IfOk-weaker c.safety_start_query.result (λ (q : Query). q ≡ asked) IsStratifiedQuery
    (λ q e. subst IsStratifiedQuery (sym e) (stratified p c.ranks_rise_among.ensures c.requires.strata asked refl (c.queries_add_no_edges.ensures.safety_start p [])))
    c.safety_start_query.ensures
