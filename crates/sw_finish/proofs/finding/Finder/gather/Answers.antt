use Rattle.std.specs.Vec.Iter.{into_iter_items}
use Rattle.sw_finish.specs.Joins.{searched}
use Rattle.sw_finish.proofs.Joins.{gathering_begins, gathering_more}
use Rattle.sw_finish.proofs.finding.Finder.gather.Goals as goal

pub loop-report-init : goal.loop-report-init
loop-report-init g c =
    let s = c.args.self.now in
    gathering_begins (searched g.B.Walk.template s) s.entries.now s.budget s.task.now.pool.now c.args.claims.now
    (into_iter_items c.into_iter-report-iterator.result)
    c.args.reports.items _ c.args.first.now c.new-joined.result c.new-joined.ensures c.into_iter-report-iterator.ensures.into_iter_gives.0 c.args.reports.ok.0
    c.requires.workers c.requires.first c.requires.unused c.requires.reports

pub loop-report-preserved : goal.loop-report-preserved
loop-report-preserved g c =
    let s = c.args.self.now in
    gathering_more (searched g.B.Walk.template s) s.entries.now s.budget s.task.now.pool.now c.args.claims.now (into_iter_items c.loop-report.report-iterator)
    (into_iter_items c.next.new.self) c.in-Some.report c.loop-report.first c.join.new.seat c.loop-report.joined c.in_ok-joined.joined c.in_ok-joined.ensures
    c.in-Some.ensures.steps.0 c.join.ensures c.loop-report.invariant
