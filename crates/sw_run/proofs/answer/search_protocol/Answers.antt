use Rattle.std.specs.Prelude.{None}
use Rattle.std.proofs.Common.{refl, sym, ap, subst, ◌∙◌}
use Rattle.sw_search.specs.Spaces.{template_of}
use Rattle.sw_run.specs.Ending.{Names}
use Rattle.sw_run.proofs.Rows.{search_refused, gives_same, answer_searches}
use Rattle.sw_run.proofs.Spaces.{can_search}
use Rattle.sw_run.proofs.answer.search_protocol.Goals as goal

pub returns-in_err-breadth : goal.returns-in_err-breadth
returns-in_err-breadth g c =
    search_refused c.args.options.now c.args.protocol.now c.in_err-breadth.field-0.0 c.from_residual.result c.from_residual.ensures.1 c.in_err-breadth.ensures.refused

pub finish_space-requires-clause-named : goal.finish_space-requires-clause-named
finish_space-requires-clause-named g c =
    subst (Names c.args.options.now.breadth c.args.protocol.now None) (sym (c.template_of.ensures ∙ ap template_of c.as_ref-first.ensures.value)) c.in_ok-breadth.ensures.gives.named

pub returns-in_err-finish : goal.returns-in_err-finish
returns-in_err-finish g c =
    search_refused c.args.options.now c.args.protocol.now c.in_err-finish.field-0.0 c.from_residual-in_err-finish.result c.from_residual-in_err-finish.ensures.1 c.in_err-finish.ensures.refused

pub search-requires-clause-can : goal.search-requires-clause-can
search-requires-clause-can g c = λ _ _.
    can_search c.args.protocol.now c.args.options.now _ _ (gives_same _ _ _ _ _ _ refl c.as_ref-first.ensures.value c.in_ok-breadth.ensures.gives)
    (gives_same _ _ _ _ _ _ c.template_of.ensures c.as_ref-last.ensures.value c.in_ok-finish.ensures.gives) c.requires.stratified

pub returns : goal.returns
returns g c =
    answer_searches c.args.options.now c.args.protocol.now _ _ c.in_ok-told.told _ (gives_same _ _ _ _ _ _ refl c.as_ref-first.ensures.value c.in_ok-breadth.ensures.gives)
    (gives_same _ _ _ _ _ _ c.template_of.ensures c.as_ref-last.ensures.value c.in_ok-finish.ensures.gives) c.in_ok-told.ensures c.answer_told.ensures
