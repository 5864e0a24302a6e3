use Rattle.std.proofs.Common.{sym, ◌∙◌, subst}
use Rattle.sw_finish.specs.Joins.{IsOver, searched, with_answer}
use Rattle.sw_finish.proofs.Joins.{over_alone}
use Rattle.sw_finish.proofs.Seeks.{cause_of, ok_is, sought_alone}
use Rattle.sw_finish.proofs.finding.Finder.alone.Goals as goal

pub returns : goal.returns
returns g c =
    let s = c.args.self.now in
    let m = searched g.B.Walk.template s in
    let can = c.requires.can in
    let a = c.seek-answer.result in
    let seat = c.seek-answer.new.claim_seat in
    ok_is (IsOver m s.task.now.pool.now s.entries.now s.budget c.args.claims.now seat) c.with.result (with_answer c.new.result a) c.with.ensures
    (subst (λ j. IsOver m s.task.now.pool.now s.entries.now s.budget c.args.claims.now seat (with_answer j a)) (sym c.new.ensures)
    (over_alone m s.entries.now s.budget s.task.now.pool.now c.args.claims.now seat a c.requires.workers (c.seek-answer.ensures.claims ∙ c.requires.object)
    (sought_alone g.B.Walk.template g.B.Walk.part_lists g.B.Candidates.has g.B.Candidates.formula_of s can a c.args.first.now.view seat.view c.requires.new c.seek-answer.ensures.sought)
    (cause_of g.B.Walk.template g.B.Walk.part_lists g.B.Candidates.has g.B.Candidates.formula_of s can a c.seek-answer.ensures.cause)))
