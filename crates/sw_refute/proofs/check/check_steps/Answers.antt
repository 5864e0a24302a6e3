use Rattle.std.proofs.Common.{◌≡◌, ◌∙◌, sym, subst, take, rules}
use Rattle.std.proofs.lemmas.List.{take_all}
use Rattle.sw_refute.specs.declared.check.StepsVerdict.TheVariants.{Accepted}
use Rattle.sw_refute.specs.Propagation.{AreAccepted}
use Rattle.sw_refute.specs.Verdict.{IsFirstRefused}
use Rattle.sw_refute.proofs.Accepting.{all_over, step_refused, step_accepted}
use Rattle.sw_refute.proofs.Verdicts.{implied}
use Rattle.sw_refute.proofs.check.check_steps.Goals as goal

pub is_accepted-requires-clause-over : goal.is_accepted-requires-clause-over
is_accepted-requires-clause-over c =
    let cnf = c.args.cnf.now in
    all_over cnf.variables cnf.clauses (take c.loop-k.k c.args.steps.now) c.requires c.loop-k.invariant.accepted

pub returns-then-not-branch-clause-judged : goal.returns-then-not-branch-clause-judged
returns-then-not-branch-clause-judged c =
    let number : c.in_ok-step.step ≡ c.loop-k.k = search rules in
    subst (IsFirstRefused c.args.cnf.now c.args.steps.now) (sym number)
    (step_refused c.args.cnf.now c.args.steps.now c.loop-k.k c.index-steps-k.result c.loop-k-test.true c.index-steps-k.is c.loop-k.invariant.accepted c.in_ok-is_accepted.field-0 c.in_ok-is_accepted.ensures.accepted c.if-not-branch.true)

pub loop-k-preserved : goal.loop-k-preserved
loop-k-preserved c = record {
  trail = c.in_ok-is_accepted.ensures.trail;
  variables = c.is_accepted.ensures.variables ∙ c.loop-k.invariant.variables;
  accepted = step_accepted c.args.cnf.now c.args.steps.now c.loop-k.k c.index-steps-k.result c.loop-k-test.true c.index-steps-k.is c.loop-k.invariant.accepted c.in_ok-is_accepted.field-0 c.in_ok-is_accepted.ensures.accepted c.if-not-branch.false;
}

pub returns-clause-implied : goal.returns-clause-implied
returns-clause-implied c =
    let cnf = c.args.cnf.now in
    let steps = c.args.steps.now in
    implied cnf steps (Accepted c.ends_empty.result) (subst (AreAccepted cnf.variables cnf.clauses) (take_all c.loop-k.k steps c.loop-k-test.false) c.loop-k.invariant.accepted, c.ends_empty.ensures)
