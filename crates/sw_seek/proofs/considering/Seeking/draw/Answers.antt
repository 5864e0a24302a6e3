use Rattle.std.proofs.Common.{◌≡◌, sym, ap, ◌∙◌, subst, length}
use Rattle.sw_core.specs.Machine.{parts_in}
use Rattle.sw_claims.specs.declared.rule.ClaimView.{ClaimView}
use Rattle.sw_seek.specs.Steps.{IsTaken, searched}
use Rattle.sw_seek.proofs.Draws.{Passed, Runs, meets, passed_more, runs_more}
use Rattle.sw_seek.proofs.Settled.{settled_next}
use Rattle.sw_seek.proofs.considering.Seeking.draw.Goals as goal

pub returns-in-Some-2-clause-drew : goal.returns-in-Some-2-clause-drew
returns-in-Some-2-clause-drew g c =
    let s = c.args.self.now in
    let m = searched g.B.Walk.template s in
    let entries = s.entries.now in
    let first : ClaimView = c.args.seat.now.view in
    let before : ClaimView = c.loop.seat.view in
    let after : ClaimView = c.draw.new.seat.view in
    let n = c.in-Number.part in
    let at = c.loop.invariant in
    let old = c.loop.progress in
    let count : first.parts ≡ length (parts_in m) = c.requires.parts ∙ ap length c.requires.can.can.are_parts in
    let told = subst (IsTaken m s.task.now.worker entries s.budget n c.loop.hand.kept c.take.new.hand.kept old c.take.new.progress) c.in-Some-2.is
    c.in_ok-found-in-Number.ensures.taken in
    meets m entries first before after old.drawn n at.runs c.in-Number.ensures.draws.1 s.budget c.in-Some-2.found count at.passes told.1

pub loop-preserved : goal.loop-preserved
loop-preserved g c =
    let s = c.args.self.now in
    let m = searched g.B.Walk.template s in
    let entries = s.entries.now in
    let worker = s.task.now.worker in
    let first : ClaimView = c.args.seat.now.view in
    let before : ClaimView = c.loop.seat.view in
    let after : ClaimView = c.draw.new.seat.view in
    let n = c.in-Number.part in
    let at = c.loop.invariant in
    let old = c.loop.progress in
    let new = c.take.new.progress in
    let kept = c.loop.hand.kept in
    let kept_now = c.take.new.hand.kept in
    let count : first.parts ≡ length (parts_in m) = c.requires.parts ∙ ap length c.requires.can.can.are_parts in
    let told = subst (IsTaken m worker entries s.budget n kept kept_now old new) c.in_default.is c.in_ok-found-in-Number.ensures.taken in
    let drew = c.in-Number.ensures.draws.1 in
    record {
      object = c.draw.ensures.object ∙ at.object;
      holds = c.in_ok-found-in-Number.ensures.holds;
      runs = subst (Runs first after) (sym told.is_drawn) (runs_more first before after old.drawn n at.runs drew);
      settled = settled_next m worker entries n kept kept_now old new at.settled told;
      passes = subst (Passed m entries first) (sym told.is_drawn) (passed_more m entries first before after old.drawn n at.runs drew count at.passes told.none);
    }
