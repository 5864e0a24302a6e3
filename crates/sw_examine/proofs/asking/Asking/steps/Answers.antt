use Rattle.std.proofs.Common.{◌+◌, List, sym, subst, arith}
use Rattle.sw_truth.specs.declared.instances.Refutation.{Refutation}
use Rattle.sw_examine.specs.Examinations.{AreRefuted, IsStepped}
use Rattle.sw_examine.proofs.Kept.{refuted_below, refuted_push}
use Rattle.sw_examine.proofs.asking.Asking.steps.Goals as goal

pub returns-in-Leaves : goal.returns-in-Leaves
returns-in-Leaves c =
    let p = c.args.self.now.protocol.now in
    let g = c.args.self.now.list.now in
    let f = c.args.self.now.formula.now in
    let budget = c.args.self.now.budget in
    let n = c.loop-transition.transition in
    let stepped = subst (IsStepped p g f budget n) c.in-Leaves.is c.in_ok-refutation.ensures in
    record { number = n; leaves = stepped.0; kept = refuted_below p c.requires.well_formed g f budget n c.loop-transition.refutations c.loop-transition.invariant; within = stepped.1 }

pub returns-in-Spent : goal.returns-in-Spent
returns-in-Spent c =
    let p = c.args.self.now.protocol.now in
    let g = c.args.self.now.list.now in
    let f = c.args.self.now.formula.now in
    let budget = c.args.self.now.budget in
    let n = c.loop-transition.transition in
    (omega (arith, c.in_ok-count.ensures), refuted_below p c.requires.well_formed g f budget n c.loop-transition.refutations c.loop-transition.invariant, subst (IsStepped p g f budget n) c.in-Spent.is c.in_ok-refutation.ensures)

pub returns-in-TooLarge : goal.returns-in-TooLarge
returns-in-TooLarge c =
    let p = c.args.self.now.protocol.now in
    let g = c.args.self.now.list.now in
    let f = c.args.self.now.formula.now in
    let budget = c.args.self.now.budget in
    let n = c.loop-transition.transition in
    (omega (arith, c.in_ok-count.ensures), refuted_below p c.requires.well_formed g f budget n c.loop-transition.refutations c.loop-transition.invariant, subst (IsStepped p g f budget n) c.in-TooLarge.is c.in_ok-refutation.ensures)

pub loop-transition-preserved : goal.loop-transition-preserved
loop-transition-preserved c =
    let p = c.args.self.now.protocol.now in
    let g = c.args.self.now.list.now in
    let f = c.args.self.now.formula.now in
    let budget = c.args.self.now.budget in
    let n = c.loop-transition.transition in
    subst (λ (rs : List Refutation). AreRefuted p g f budget (n + 1) rs) (sym c.in_ok-push-in-Keeps.ensures.ok)
    (refuted_push p c.requires.well_formed g f budget n c.loop-transition.refutations c.in-Keeps.refutation c.loop-transition.invariant (subst (IsStepped p g f budget n) c.in-Keeps.is c.in_ok-refutation.ensures))
