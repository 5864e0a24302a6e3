use Rattle.std.proofs.Common.{length, ap, ◌∙◌, rules, subst, sym}
use Rattle.std.specs.List.{AllByRecursion}
use Rattle.sw_core.specs.Machine.{parts_in}
use Rattle.sw_gather.specs.Gathers.{HasTokens}
use Rattle.sw_finish.specs.Joins.{AreJoined, IsLast, searched}
use Rattle.sw_finish.proofs.Whole.{have_tokens, whole_is}
use Rattle.sw_finish.proofs.finding.Finder.conclude.Goals as goal

pub one_round-requires : goal.one_round-requires
one_round-requires g c =
    let s = c.args.self.now in
    let m = searched g.B.Walk.template s in
    let a = subst (AreJoined m s.task.now.pool.now s.entries.now s.budget m.workers c.args.first.view) c.in-Whole.is c.requires.over.answers in
    record { tokens = subst (AllByRecursion (HasTokens s.task.now.pool.now)) (sym c.as_slice.ensures) (have_tokens m s.task.now.pool.now s.entries.now c.in-Whole.shares a.each) }

pub returns-in_ok-record_-in-Whole-clause-finished : goal.returns-in_ok-record_-in-Whole-clause-finished
returns-in_ok-record_-in-Whole-clause-finished g c =
    let s = c.args.self.now in
    let m = searched g.B.Walk.template s in
    let a = subst (AreJoined m s.task.now.pool.now s.entries.now s.budget m.workers c.args.first.view) c.in-Whole.is c.requires.over.answers in
    let last = subst (IsLast c.args.claims (length (parts_in m)) c.args.first) c.in-Whole.is c.requires.over.last in
    whole_is m s.task.now.pool.now s.entries.now c.requires.can.finish c.args.first.view c.close-in-Whole.result c.in-Whole.shares c.in_ok-record_-in-Whole.record_ a c.close-in-Whole.ensures.numbers
    (c.close-in-Whole.ensures.whole (a.ended c.requires.can.some) ∙ last.parts_are)
    (search rules)
