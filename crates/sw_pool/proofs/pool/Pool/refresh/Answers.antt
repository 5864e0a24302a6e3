use Rattle.std.proofs.Common.{◌∙◌}
use Rattle.sw_pool.specs.Refreshes.{AddsSome}
use Rattle.sw_pool.proofs.Visiting.{walks_on, walk_fails, if_err}
use Rattle.sw_pool.proofs.pool.Pool.refresh.Goals as goal

pub returns-in_err-visit-clause-memory : goal.returns-in_err-visit-clause-memory
returns-in_err-visit-clause-memory g c =
    if_err (AddsSome c.args.protocol.now c.args.view.now.shown.items c.visit.new.view.shown.items) c.from_residual.result
    (walk_fails _ _ _ _ _ _ _ _ c.loop-index.invariant.walks c.in_err-visit.ensures.memory)

pub loop-index-preserved : goal.loop-index-preserved
loop-index-preserved g c =
    let was = c.loop-index.invariant in
    let now = c.visit.ensures.same in
    record {
      same = (now.0 ∙ was.same.0, now.1 ∙ was.same.1, now.2 ∙ was.same.2, now.3 ∙ was.same.3);
      room = λ h. c.visit.ensures.room (was.room h);
      walks = walks_on _ _ _ _ _ _ _ _ _ _ was.walks c.in_ok-visit.ensures.visits;
    }
