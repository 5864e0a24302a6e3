use Rattle.std.proofs.Common.{◌≡◌, arith, refl, ◌∙◌, subst, length, take}
use Rattle.std.specs.List.{AllByRecursion}
use Rattle.std.proofs.lemmas.List.{length-take-le}
use Rattle.sw_filter.specs.declared.filter.Mode.TheVariants.{Breadth}
use Rattle.sw_hand.specs.Hands.{search_of}
use Rattle.sw_breadth.specs.Records.{IsLiveShare}
use Rattle.sw_breadth.proofs.Lives.{quiet_round, tested_round}
use Rattle.sw_breadth.proofs.living.is_last.Goals as goal

pub returns-then-log-since-clause-last : goal.returns-then-log-since-clause-last
returns-then-log-since-clause-last g c =
    let m = search_of c.args.task.now.protocol.now (g.B.Walk.template c.args.task.now.space.now) Breadth c.args.task.now.workers in
    let long = length-take-le c.args.since c.args.log.now c.requires.since in
    λ _. quiet_round m c.args.task.now.pool.now c.args.before (length (take c.args.since c.args.log.now)) c.args.log.now c.args.shares.now (omega (arith, long)) c.requires.whole.shares

pub returns-clause-last : goal.returns-clause-last
returns-clause-last g c =
    let m = search_of c.args.task.now.protocol.now (g.B.Walk.template c.args.task.now.space.now) Breadth c.args.task.now.workers in
    λ e. tested_round m c.args.before c.args.log.now c.args.shares.now refl
    (subst (λ l. AllByRecursion (IsLiveShare m.protocol l c.args.before) c.args.shares.now) (c.deref.ensures.value ∙ c.in_ok-formulas.ensures.formulas) (c.are_live_shares.ensures e))
