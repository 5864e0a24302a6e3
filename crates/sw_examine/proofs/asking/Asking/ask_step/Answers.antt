use Rattle.std.proofs.Common.{sym, subst}
use Rattle.sw_lists.proofs.Places.{get_some}
use Rattle.sw_logic.specs.Queries.{IsQuery}
use Rattle.sw_ground.specs.Verdict.{IsStratifiedQuery}
use Rattle.sw_examine.proofs.Decided.{step_query_is, step_query_stratified}
use Rattle.sw_examine.proofs.asking.Asking.ask_step.Goals as goal

pub ask-requires-clause-query : goal.ask-requires-clause-query
ask-requires-clause-query c =
    let self = c.args.self.now in
    let t = get_some self.protocol.now.transitions c.args.transition c.requires.number in
    subst IsQuery (sym (c.in_ok-query.ensures t.0 t.1)) (step_query_is self.protocol.now self.list.now self.formula.now c.requires.well_formed c.requires.ask c.args.transition t.0 t.1)

pub ask-requires-clause-strata : goal.ask-requires-clause-strata
ask-requires-clause-strata c =
    let self = c.args.self.now in
    let t = get_some self.protocol.now.transitions c.args.transition c.requires.number in
    subst IsStratifiedQuery (sym (c.in_ok-query.ensures t.0 t.1)) (step_query_stratified self.protocol.now self.list.now self.formula.now c.requires.well_formed c.requires.ask c.args.transition t.0 t.1)
