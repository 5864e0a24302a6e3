use Rattle.std.specs.Vec.Iter.{into_iter_items}
use Rattle.sw_filter.specs.declared.filter.Mode.TheVariants.{Breadth}
use Rattle.sw_hand.specs.Hands.{search_of}
use Rattle.sw_breadth.proofs.Joins.{Gathering}
use Rattle.sw_breadth.proofs.working.Round.gather.Given as goal

abbrev pub invariant-loop-report : goal.invariant-loop-report
invariant-loop-report g l =
    Gathering (search_of l.self.task.now.protocol.now (g.B.Walk.template l.self.task.now.space.now) Breadth l.self.task.now.workers) l.self.shared.now.figures.budget l.self.task.now.pool.now l.initial.first.log.view.seen l.self.shared.now.figures.before
    l.self.shared.now (into_iter_items l.report-iterator) l.first l.joined
