use Rattle.std.proofs.Common.{subst}
use Rattle.sw_decide.specs.declared.decision.Decision.{Decision}
use Rattle.sw_examine.specs.Answers.{IsAnswer}
use Rattle.sw_join.specs.Joining.{OfJoin}
use Rattle.sw_join.proofs.stepping.step.Goals as goal

pub filter-requires-clause-met : goal.filter-requires-clause-met
filter-requires-clause-met c =
    let p = c.args.asking.now.protocol.now in
    let g = c.args.asking.now.list.now in
    let f = c.args.asking.now.formula.now in
    let budget = c.args.asking.now.budget in
    subst (λ (d : Decision). OfJoin p g f c.args.transition (λ q. IsAnswer q budget d)) c.in-Found.is c.in_ok-refutation.ensures
