use Rattle.std.specs.Vec.Iter.{into_iter_items}
use Rattle.sw_finish.specs.Joins.{searched}
use Rattle.sw_finish.proofs.Joins.{Gathering}
use Rattle.sw_finish.proofs.finding.Finder.gather.Given as goal

abbrev pub invariant-loop-report : goal.invariant-loop-report
invariant-loop-report g l =
    Gathering (searched g.B.Walk.template l.self) l.self.entries.now l.self.budget l.self.task.now.pool.now l.claims
    (into_iter_items l.report-iterator) l.first l.joined
