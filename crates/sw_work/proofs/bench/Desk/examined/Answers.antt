use Rattle.std.proofs.Common.{sym, subst, refl}
use Rattle.sw_work.specs.Steps.{IsTried, searched}
use Rattle.sw_work.proofs.bench.Desk.examined.Goals as goal

pub remember-requires-clause-follows : goal.remember-requires-clause-follows
remember-requires-clause-follows g c = c.in_ok-follows.ensures c.if-branch.true

pub returns-then-branch-clause-tried : goal.returns-then-branch-clause-tried
returns-then-branch-clause-tried g c =
    subst (IsTried (searched g.B.Walk.template c.args.self.now.task.now) c.args.seat.now.view c.args.seat.now.view c.args.bench.now c.remember.new.bench c.args.body.now) (sym c.in_ok-remember.ensures.tried) (refl, c.in_ok-remember.ensures.good)
