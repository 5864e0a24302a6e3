use Rattle.std.specs.Vec.Iter.{into_iter_items}
use Rattle.std.proofs.Common.{subst, sym}
use Rattle.sw_filter.specs.declared.filter.Mode.TheVariants.{Breadth}
use Rattle.sw_hand.specs.Hands.{search_of}
use Rattle.sw_breadth.proofs.Joins.{Gathering, gathering_more}
use Rattle.sw_breadth.proofs.working.Round.gather.Goals as goal

pub loop-report-preserved : goal.loop-report-preserved
loop-report-preserved g c =
    let s = c.args.self.now in
    let m = search_of s.task.now.protocol.now (g.B.Walk.template s.task.now.space.now) Breadth s.task.now.workers in
    let seen = c.args.first.now.log.view.seen in
    subst (Gathering m s.shared.now.figures.budget s.task.now.pool.now seen s.shared.now.figures.before s.shared.now (into_iter_items c.next.new.self) c.join.new.first) (sym c.in_ok-joined.ensures)
    (gathering_more m s.shared.now.figures.budget s.task.now.pool.now seen s.shared.now.figures.before s.shared.now (into_iter_items c.loop-report.report-iterator) (into_iter_items c.next.new.self) c.in-Some.report c.loop-report.first c.join.new.first c.loop-report.joined
    c.in-Some.ensures.steps.0 c.join.ensures.seats c.join.ensures.claim c.join.ensures.log c.join.ensures.begins c.loop-report.invariant)
