use Rattle.std.proofs.Common.{length, subst}
use Rattle.sw_core.specs.Machine.{Search}
use Rattle.sw_work.specs.Steps.{FailsRound, IsDrew, searched}
use Rattle.sw_work.proofs.Begins.{prefix_le}
use Rattle.sw_work.proofs.Handing.{earlier, fails_look, worked_done}
use Rattle.sw_work.proofs.Rows.{passed}
use Rattle.sw_work.proofs.bench.Desk.round.Goals as goal

pub returns-in_err-progress-clause-cause : goal.returns-in_err-progress-clause-cause
returns-in_err-progress-clause-cause g c =
    let task = c.args.self.now.task.now in
    let m : Search = searched g.B.Walk.template task in
    let o = c.args.claim_seat.now.view in
    let v = c.args.seat.now.view in
    let u = c.begin.new.seat.view in
    let w = c.draw_parts.new.seat.view in
    passed (FailsRound m c.args.self.now.budget o v w) c.in_err-progress.field-0.0 c.from_residual-in_err-progress.result c.from_residual-in_err-progress.ensures.1
    (fails_look m c.args.self.now.budget o v u w c.in_err-progress.field-0.0 c.in_ok-bench.ensures.looks c.in_err-progress.ensures.cause)

pub returns-in_ok-hand_over-in-All-clause-worked : goal.returns-in_ok-hand_over-in-All-clause-worked
returns-in_ok-hand_over-in-All-clause-worked g c =
    let task = c.args.self.now.task.now in
    let m : Search = searched g.B.Walk.template task in
    let o = c.args.claim_seat.now.view in
    let d = c.draw_parts.new.claim_seat.view in
    let v = c.args.seat.now.view in
    let u = c.begin.new.seat.view in
    let w = c.draw_parts.new.seat.view in
    let b = c.draw_parts.new.bench in
    let looks = c.in_ok-bench.ensures.looks in
    let settled = subst (IsDrew m task.worker c.args.before o d u w b) c.in-All.is c.in_ok-progress.ensures.drew in
    let then = c.in_ok-hand_over-in-All.ensures in
    worked_done m task.pool.now task.worker c.args.before o d v u w b c.in-All.progress c.in_ok-hand_over-in-All.field-0 looks settled c.in_ok-progress.ensures.stands.fits.are then.drawn
    (then.handed c.args.before (length v.seen) settled.in_order
    (earlier m task.pool.now task.worker c.args.before (length u.seen) (length v.seen) b.formulas b.hand.kept c.in-All.progress.settled (prefix_le v.seen u.seen looks.begins) settled.promised))
