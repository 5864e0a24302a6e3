use Rattle.std.proofs.Common.{◌+◌, List, sym, subst, arith}
use Rattle.sw_truth.specs.declared.instances.Refutation.{Refutation}
use Rattle.sw_join.specs.Joining.{AreRefuted, IsStepped}
use Rattle.sw_join.proofs.Joined.{refuted_below, refuted_push}
use Rattle.sw_join.proofs.stepping.ask_joins.Goals as goal

pub returns-in-Leaves : goal.returns-in-Leaves
returns-in-Leaves c =
    let p = c.args.asking.now.protocol.now in
    let g = c.args.asking.now.list.now in
    let f = c.args.asking.now.formula.now in
    let budget = c.args.asking.now.budget in
    let n = c.loop-transition.transition in
    let below = refuted_below p c.requires.well_formed g f budget n c.loop-transition.refutations c.loop-transition.invariant in
    let stepped = subst (IsStepped p g f budget n) c.in-Leaves.is c.in_ok-refutation.ensures in
    record { number = n; leaves = stepped.0; joined = below; within = stepped.1 }

pub returns-in-Bad : goal.returns-in-Bad
returns-in-Bad c =
    let p = c.args.asking.now.protocol.now in
    let g = c.args.asking.now.list.now in
    let f = c.args.asking.now.formula.now in
    let budget = c.args.asking.now.budget in
    let n = c.loop-transition.transition in
    let below = refuted_below p c.requires.well_formed g f budget n c.loop-transition.refutations c.loop-transition.invariant in
    let stepped = subst (IsStepped p g f budget n) c.in-Bad.is c.in_ok-refutation.ensures in
    record { number = n; leaves = stepped.0; joined = below; within = stepped.1 }

pub returns-in-Spent : goal.returns-in-Spent
returns-in-Spent c =
    let p = c.args.asking.now.protocol.now in
    let g = c.args.asking.now.list.now in
    let f = c.args.asking.now.formula.now in
    let budget = c.args.asking.now.budget in
    let n = c.loop-transition.transition in
    let below = refuted_below p c.requires.well_formed g f budget n c.loop-transition.refutations c.loop-transition.invariant in
    (omega (arith, c.in_ok-count.ensures), below, subst (IsStepped p g f budget n) c.in-Spent.is c.in_ok-refutation.ensures)

pub returns-in-TooLarge : goal.returns-in-TooLarge
returns-in-TooLarge c =
    let p = c.args.asking.now.protocol.now in
    let g = c.args.asking.now.list.now in
    let f = c.args.asking.now.formula.now in
    let budget = c.args.asking.now.budget in
    let n = c.loop-transition.transition in
    let below = refuted_below p c.requires.well_formed g f budget n c.loop-transition.refutations c.loop-transition.invariant in
    (omega (arith, c.in_ok-count.ensures), below, subst (IsStepped p g f budget n) c.in-TooLarge.is c.in_ok-refutation.ensures)

pub loop-transition-preserved : goal.loop-transition-preserved
loop-transition-preserved c =
    let p = c.args.asking.now.protocol.now in
    let g = c.args.asking.now.list.now in
    let f = c.args.asking.now.formula.now in
    let budget = c.args.asking.now.budget in
    let n = c.loop-transition.transition in
    let stepped = subst (IsStepped p g f budget n) c.in-Joins.is c.in_ok-refutation.ensures in
    subst (λ (rs : List Refutation). AreRefuted p g f budget (n + 1) rs) (sym c.in_ok-push-in-Joins.ensures.ok)
    (refuted_push p c.requires.well_formed g f budget n c.loop-transition.refutations c.in-Joins.refutation c.loop-transition.invariant stepped)
