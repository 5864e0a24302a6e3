use Rattle.std.proofs.Common.{◌≡◌, ℕ, slice_get, sym, ap, subst, refl, ◌∙◌}
use Rattle.sw_lists.proofs.Places.{get_some}
use Rattle.sw_logic.specs.declared.query.Query.{Query}
use Rattle.sw_logic.specs.Queries.{IsQuery}
use Rattle.sw_meaning.specs.Verdict.{Verdict}
use Rattle.sw_ground.specs.Verdict.{IsStratifiedQuery}
use Rattle.sw_decide.specs.declared.decision.Decision.{Decision}
use Rattle.sw_verdict.specs.declared.judging.SafetyQuery.TheVariants.{Step}
use Rattle.sw_verdict.specs.Judgement.{IsCleared, IsMet, IsSpentBy, IsTooLargeBy, Ends, step_of}
use Rattle.sw_verdict.proofs.Safety.{not_safe_by}
use Rattle.sw_verdict.proofs.Answers.{IsKnown, known, step_is_query, step_is_stratified, step_ends}
use Rattle.sw_verdict.proofs.judging.Asking.step.Goals as goal

pub decide-requires-clause-query : goal.decide-requires-clause-query
decide-requires-clause-query c =
    let p = c.args.self.now.protocol.now in
    let g = c.args.self.now.list.now in
    let n = c.args.transition in
    let t = get_some p.transitions n c.requires.number in
    let same = c.in_ok-query.ensures t.0 (ap (slice_get p.transitions) c.in-Ok.ensures.1 ∙ t.1) in
    subst IsQuery (sym same) (step_is_query p g c.requires.ask n t.0 t.1)

pub decide-requires-clause-strata : goal.decide-requires-clause-strata
decide-requires-clause-strata c =
    let p = c.args.self.now.protocol.now in
    let g = c.args.self.now.list.now in
    let n = c.args.transition in
    let t = get_some p.transitions n c.requires.number in
    let same = c.in_ok-query.ensures t.0 (ap (slice_get p.transitions) c.in-Ok.ensures.1 ∙ t.1) in
    subst IsStratifiedQuery (sym same) (step_is_stratified p g c.requires.ask n t.0 t.1)

pub returns-in-Refuted-clause-kept : goal.returns-in-Refuted-clause-kept
returns-in-Refuted-clause-kept c =
    let p = c.args.self.now.protocol.now in
    let g = c.args.self.now.list.now in
    let budget = c.args.self.now.budget in
    let n = c.args.transition in
    λ none t e.
    let same = c.in_ok-query.ensures t (ap (slice_get p.transitions) c.in-Ok.ensures.1 ∙ e) in
    let d = c.in_ok-decide.field-0 in
    let told = known c.in_ok-query.query budget d (record { carried = c.in_ok-decide.ensures.carried; exact = c.in_ok-decide.ensures.exact; large = c.in_ok-decide.ensures.large }) in
    subst IsCleared same (subst (IsKnown c.in_ok-query.query budget) c.in-Refuted.is told)

pub returns-in-Found-clause-word : goal.returns-in-Found-clause-word
returns-in-Found-clause-word c =
    let p = c.args.self.now.protocol.now in
    let g = c.args.self.now.list.now in
    let budget = c.args.self.now.budget in
    let n = c.args.transition in
    let t = get_some p.transitions n c.requires.number in
    let same = c.in_ok-query.ensures t.0 (ap (slice_get p.transitions) c.in-Ok.ensures.1 ∙ t.1) in
    let d = c.in_ok-decide.field-0 in
    let told = known c.in_ok-query.query budget d (record { carried = c.in_ok-decide.ensures.carried; exact = c.in_ok-decide.ensures.exact; large = c.in_ok-decide.ensures.large }) in
    let met = subst IsMet same (subst (IsKnown c.in_ok-query.query budget) c.in-Found.is told) in
    Verdict.unsettled refl (not_safe_by p g c.requires.ask.well_formed n t.0 t.1 c.requires.start.none met.some) refl

pub returns-in-Found-clause-cause : goal.returns-in-Found-clause-cause
returns-in-Found-clause-cause c =
    let p = c.args.self.now.protocol.now in
    let g = c.args.self.now.list.now in
    let budget = c.args.self.now.budget in
    let n = c.args.transition in
    let t = get_some p.transitions n c.requires.number in
    let same = c.in_ok-query.ensures t.0 (ap (slice_get p.transitions) c.in-Ok.ensures.1 ∙ t.1) in
    let d = c.in_ok-decide.field-0 in
    let told = known c.in_ok-query.query budget d (record { carried = c.in_ok-decide.ensures.carried; exact = c.in_ok-decide.ensures.exact; large = c.in_ok-decide.ensures.large }) in
    let met = subst IsMet same (subst (IsKnown c.in_ok-query.query budget) c.in-Found.is told) in
    (n, step_ends p g c.requires.ask IsMet n t.0 t.1 c.requires.start c.requires.before met)

pub returns-in-Spent-clause-cause : goal.returns-in-Spent-clause-cause
returns-in-Spent-clause-cause c =
    let p = c.args.self.now.protocol.now in
    let g = c.args.self.now.list.now in
    let budget = c.args.self.now.budget in
    let n = c.args.transition in
    let t = get_some p.transitions n c.requires.number in
    let same = c.in_ok-query.ensures t.0 (ap (slice_get p.transitions) c.in-Ok.ensures.1 ∙ t.1) in
    let d = c.in_ok-decide.field-0 in
    let told = known c.in_ok-query.query budget d (record { carried = c.in_ok-decide.ensures.carried; exact = c.in_ok-decide.ensures.exact; large = c.in_ok-decide.ensures.large }) in
    let Known : Query → Type 0 = λ q. IsSpentBy q budget c.in-Spent.steps in
    let spent = subst Known same (subst (IsKnown c.in_ok-query.query budget) c.in-Spent.is told) in
    subst (λ (k : ℕ). Ends p g (Step k) Known) (sym c.in-Ok.ensures.1) (step_ends p g c.requires.ask Known n t.0 t.1 c.requires.start c.requires.before spent)

pub returns-clause-cause : goal.returns-clause-cause
returns-clause-cause c =
    let p = c.args.self.now.protocol.now in
    let g = c.args.self.now.list.now in
    let budget = c.args.self.now.budget in
    let n = c.args.transition in
    let t = get_some p.transitions n c.requires.number in
    let same = c.in_ok-query.ensures t.0 (ap (slice_get p.transitions) c.in-Ok.ensures.1 ∙ t.1) in
    let d = c.in_ok-decide.field-0 in
    let told = known c.in_ok-query.query budget d (record { carried = c.in_ok-decide.ensures.carried; exact = c.in_ok-decide.ensures.exact; large = c.in_ok-decide.ensures.large }) in
    let Known : Query → Type 0 = λ q. IsTooLargeBy q c.in-TooLarge.size in
    let large = subst Known same (subst (IsKnown c.in_ok-query.query budget) c.in-TooLarge.is told) in
    subst (λ (k : ℕ). Ends p g (Step k) Known) (sym c.in-Ok.ensures.1) (step_ends p g c.requires.ask Known n t.0 t.1 c.requires.start c.requires.before large)
