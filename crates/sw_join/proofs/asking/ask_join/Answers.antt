use Rattle.std.proofs.Common.{sym, subst}
use Rattle.sw_lists.proofs.Places.{get_some}
use Rattle.sw_logic.specs.Queries.{IsQuery}
use Rattle.sw_ground.specs.Verdict.{IsStratifiedQuery}
use Rattle.sw_join.proofs.Decided.{join_is_query, join_is_stratified}
use Rattle.sw_join.proofs.asking.ask_join.Goals as goal

pub ask-requires-clause-query : goal.ask-requires-clause-query
ask-requires-clause-query c =
    let p = c.args.asking.now.protocol.now in
    let g = c.args.asking.now.list.now in
    let f = c.args.asking.now.formula.now in
    let n = c.args.transition in
    let t = get_some p.transitions n c.requires.number in
    subst IsQuery (sym (c.in_ok-query.ensures t.0 t.1)) (join_is_query p g f c.requires.ask n t.0 t.1 c.requires.well_formed)

pub ask-requires-clause-strata : goal.ask-requires-clause-strata
ask-requires-clause-strata c =
    let p = c.args.asking.now.protocol.now in
    let g = c.args.asking.now.list.now in
    let f = c.args.asking.now.formula.now in
    let n = c.args.transition in
    let t = get_some p.transitions n c.requires.number in
    subst IsStratifiedQuery (sym (c.in_ok-query.ensures t.0 t.1)) (join_is_stratified p g f c.requires.ask n t.0 t.1)
