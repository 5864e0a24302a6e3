use Rattle.std.proofs.Common.{subst}
use Rattle.sw_examine.specs.Answers.{IsAnswer}
use Rattle.sw_examine.specs.Examinations.{OfStep}
use Rattle.sw_decide.specs.declared.decision.Decision.{Decision}
use Rattle.sw_examine.proofs.asking.Asking.step.Goals as goal

pub returns-in_ok-filter-in-Found : goal.returns-in_ok-filter-in-Found
returns-in_ok-filter-in-Found c =
    let p = c.args.self.now.protocol.now in
    let g = c.args.self.now.list.now in
    let f = c.args.self.now.formula.now in
    let budget = c.args.self.now.budget in
    let n = c.args.transition in
    let told = subst (λ (d : Decision). OfStep p g f n (λ q. IsAnswer q budget d)) c.in-Found.is c.in_ok-refutation.ensures in
    (c.in_ok-filter-in-Found.ensures, λ t e. (told t e).within)
