use Rattle.std.proofs.Common.{◌≡◌, ℕ, sym, ap, subst, refl}
use Rattle.sw_logic.specs.declared.query.Query.{Query}
use Rattle.sw_logic.specs.Queries.{IsQuery}
use Rattle.sw_meaning.specs.Verdict.{Verdict}
use Rattle.sw_ground.specs.Verdict.{IsStratifiedQuery}
use Rattle.sw_decide.specs.declared.decision.Decision.{Decision}
use Rattle.sw_verdict.specs.Judgement.{IsCleared, IsMet, IsSpentBy, IsTooLargeBy}
use Rattle.sw_verdict.proofs.Safety.{violated}
use Rattle.sw_verdict.proofs.Answers.{IsKnown, known, start_is_query, start_is_stratified, start_ends}
use Rattle.sw_verdict.proofs.judging.judge_safety.Goals as goal

pub decide-requires-clause-query : goal.decide-requires-clause-query
decide-requires-clause-query c = subst IsQuery (sym c.in_ok-query.ensures) (start_is_query c.args.protocol.now c.args.list.now c.requires.ask)

pub decide-requires-clause-strata : goal.decide-requires-clause-strata
decide-requires-clause-strata c = subst IsStratifiedQuery (sym c.in_ok-query.ensures) (start_is_stratified c.args.protocol.now c.args.list.now c.requires.ask)

pub steps-requires-clause-start : goal.steps-requires-clause-start
steps-requires-clause-start c =
    let d = c.in_ok-decide.field-0 in
    let told = known c.in_ok-query.query c.args.budget d (record { carried = c.in_ok-decide.ensures.carried; exact = c.in_ok-decide.ensures.exact; large = c.in_ok-decide.ensures.large }) in
    subst IsCleared c.in_ok-query.ensures (subst (IsKnown c.in_ok-query.query c.args.budget) c.in-Refuted.is told)

pub returns-in-Found-clause-word : goal.returns-in-Found-clause-word
returns-in-Found-clause-word c =
    let p = c.args.protocol.now in
    let d = c.in_ok-decide.field-0 in
    let told = known c.in_ok-query.query c.args.budget d (record { carried = c.in_ok-decide.ensures.carried; exact = c.in_ok-decide.ensures.exact; large = c.in_ok-decide.ensures.large }) in
    let met = subst IsMet c.in_ok-query.ensures (subst (IsKnown c.in_ok-query.query c.args.budget) c.in-Found.is told) in
    Verdict.violated refl (violated p met.some)

pub returns-in-Found-clause-cause : goal.returns-in-Found-clause-cause
returns-in-Found-clause-cause c =
    let d = c.in_ok-decide.field-0 in
    let told = known c.in_ok-query.query c.args.budget d (record { carried = c.in_ok-decide.ensures.carried; exact = c.in_ok-decide.ensures.exact; large = c.in_ok-decide.ensures.large }) in
    let met = subst IsMet c.in_ok-query.ensures (subst (IsKnown c.in_ok-query.query c.args.budget) c.in-Found.is told) in
    start_ends c.args.protocol.now c.args.list.now c.requires.ask IsMet met

pub returns-in-Spent-clause-cause : goal.returns-in-Spent-clause-cause
returns-in-Spent-clause-cause c =
    let budget = c.args.budget in
    let d = c.in_ok-decide.field-0 in
    let told = known c.in_ok-query.query budget d (record { carried = c.in_ok-decide.ensures.carried; exact = c.in_ok-decide.ensures.exact; large = c.in_ok-decide.ensures.large }) in
    let Known : Query → Type 0 = λ q. IsSpentBy q budget c.in-Spent.steps in
    start_ends c.args.protocol.now c.args.list.now c.requires.ask Known (subst Known c.in_ok-query.ensures (subst (IsKnown c.in_ok-query.query budget) c.in-Spent.is told))

pub returns-clause-cause : goal.returns-clause-cause
returns-clause-cause c =
    let d = c.in_ok-decide.field-0 in
    let told = known c.in_ok-query.query c.args.budget d (record { carried = c.in_ok-decide.ensures.carried; exact = c.in_ok-decide.ensures.exact; large = c.in_ok-decide.ensures.large }) in
    let Known : Query → Type 0 = λ q. IsTooLargeBy q c.in-TooLarge.size in
    start_ends c.args.protocol.now c.args.list.now c.requires.ask Known (subst Known c.in_ok-query.ensures (subst (IsKnown c.in_ok-query.query c.args.budget) c.in-TooLarge.is told))
