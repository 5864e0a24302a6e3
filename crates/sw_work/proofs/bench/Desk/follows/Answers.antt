use Rattle.std.proofs.Common.{◌≡◌, ◌∙◌, List, subst, sym}
use Rattle.sw_logic.specs.declared.syntax.Formula.{Formula}
use Rattle.sw_meaning.specs.Inductive.{Follows}
use Rattle.sw_queries.specs.Queries.{follow_query_of}
use Rattle.sw_template.specs.Bodies.{Class}
use Rattle.sw_examine.specs.Answers.{IsAnswer, CanAsk}
use Rattle.sw_examine.proofs.Kept as kept
use Rattle.sw_work.proofs.Asked.{has_it, can_ask}
use Rattle.sw_work.proofs.bench.Desk.follows.Goals as goal

pub formula-requires : goal.formula-requires
formula-requires g c =
    has_it g.B.Walk.template g.B.Walk.part_lists g.B.Candidates.has g.B.Candidates.formula_of c.args.self.now.task.now c.args.self.now.budget c.requires.can c.args.body.now c.requires.class

pub ask_follow-requires-clause-ask : goal.ask_follow-requires-clause-ask
ask_follow-requires-clause-ask g c =
    let task = c.args.self.now.task.now in
    let body : Class = c.args.body.now in
    let fs : List Formula = c.as_slice.result.now in
    let e : fs ≡ c.args.bench.now.formulas = c.as_slice.ensures in
    subst (CanAsk task.protocol.now fs) (sym c.in_ok-formula.ensures.formula)
    (can_ask g.B.Walk.template g.B.Walk.part_lists g.B.Candidates.has g.B.Candidates.formula_of task c.args.self.now.budget c.requires.can fs c.args.bench.now.entries.items body (e ∙ c.requires.stands.fits.are) c.requires.class)

pub returns-in-Refuted : goal.returns-in-Refuted
returns-in-Refuted g c =
    let task = c.args.self.now.task.now in
    let p = task.protocol.now in
    let fs : List Formula = c.as_slice.result.now in
    let f : Formula = c.in_ok-formula.formula in
    let told = subst (IsAnswer (follow_query_of p fs f) c.args.self.now.budget) c.in-Refuted.is c.in_ok-ask_follow.ensures in
    let here : Follows p fs f = kept.follows p c.requires.can.can.well_formed fs f c.args.self.now.budget c.in-Refuted.field-0 told in
    λ _. subst (λ (gs : List Formula). Follows p gs (g.B.Candidates.formula_of task.space.now c.args.body.now)) c.as_slice.ensures (subst (Follows p fs) c.in_ok-formula.ensures.formula here)
