use Rattle.std.proofs.Common.{◌≡◌, ◌∙◌, [], ◌∷◌, ◌++◌, ap, sym, subst}
use Rattle.sw_filter.specs.declared.filter.Mode.TheVariants.{Breadth}
use Rattle.sw_hand.specs.Hands.{search_of}
use Rattle.sw_work.specs.Works.{Gained, IsWorked}
use Rattle.sw_work.specs.declared.working.Worked.TheVariants as worked
use Rattle.sw_breadth.specs.declared.joining.Joined.TheVariants as came
use Rattle.sw_breadth.specs.declared.sharing.Places.{Places}
use Rattle.sw_breadth.specs.Joins.{IsClosable}
use Rattle.sw_breadth.proofs.Joins.{lone_failed, lone_whole}
use Rattle.sw_breadth.proofs.working.Round.alone.Goals as goal

pub returns-in_ok-push-in-Ok-Done-clause-joined : goal.returns-in_ok-push-in-Ok-Done-clause-joined
returns-in_ok-push-in-Ok-Done-clause-joined g c =
    let s = c.args.self.now in
    let m = search_of s.task.now.protocol.now (g.B.Walk.template s.task.now.space.now) Breadth s.task.now.workers in
    let w : Places = record { claim = c.work-answer.new.claim_seat; log = c.work-answer.new.log_seat } in
    let worker = c.requires.worker.0 in
    let handed = c.in-Ok-Done.handed in
    let did = rw c.in-Ok-Done.field-0-is at c.in-Ok-Done.ensures.worked in
    subst (λ l. IsClosable m s.task.now.pool.now s.shared.now.figures.budget c.args.first.now.log.view.seen s.shared.now.figures.before w (came.Whole l)) (sym (c.in_ok-push-in-Ok-Done.ensures.ok ∙ ap (λ l. l ++ handed ∷ []) c.new-shares.ensures))
    (lone_whole m s.shared.now.figures.budget s.task.now.pool.now s.shared.now.figures.before c.args.first.now w c.requires.worker.1 c.requires.alone c.requires.own (subst (λ n. Gained m n c.args.first.now.log.view w.log.view) worker c.work-answer.ensures.gained) handed
    (subst (λ n. IsWorked m s.task.now.pool.now n s.shared.now.figures.before c.args.first.now.claim.view w.claim.view c.args.first.now.log.view w.log.view (worked.Done handed)) worker did))

pub returns-in-Err-clause-joined : goal.returns-in-Err-clause-joined
returns-in-Err-clause-joined g c =
    let s = c.args.self.now in
    let m = search_of s.task.now.protocol.now (g.B.Walk.template s.task.now.space.now) Breadth s.task.now.workers in
    let w : Places = record { claim = c.work-answer.new.claim_seat; log = c.work-answer.new.log_seat } in
    lone_failed m s.shared.now.figures.budget s.task.now.pool.now s.shared.now.figures.before c.args.first.now w c.requires.worker.1 c.requires.alone c.requires.own (subst (λ n. Gained m n c.args.first.now.log.view w.log.view) c.requires.worker.0 c.work-answer.ensures.gained) c.in-Err.error c.in-Err.ensures.cause
