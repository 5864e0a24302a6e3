use Rattle.std.proofs.Common.{◌≡◌, ◌++◌, length, map, take}
use Rattle.std.specs.List.{AllByRecursion}
use Rattle.sw_claims.specs.ClaimsRule.{opened}
use Rattle.sw_core.specs.declared.record.Settled.{Settled}
use Rattle.sw_core.specs.Machine.{parts_in}
use Rattle.sw_work.specs.Works.{Gained, Settles}
use Rattle.sw_work.specs.Steps.{IsFirst, IsPromised, Leads, Stands, searched}
use Rattle.sw_work.proofs.bench.Desk.draw_parts.Given as goal

abbrev pub invariant-loop : goal.invariant-loop
invariant-loop g l = record {
  claims : l.claim_seat.object ≡ l.fn.claim_seat.object;
  parts : l.claim_seat.view.parts ≡ l.fn.claim_seat.view.parts;
  wrote : l.claim_seat.view.wrote ≡ l.fn.claim_seat.view.wrote;
  first : l.claim_seat.view.first ≡ l.fn.claim_seat.view.first;
  out : l.claim_seat.view.out ≡ l.fn.claim_seat.view.out;
  drawn : l.claim_seat.view.drawn ≡ l.fn.claim_seat.view.drawn ++ l.progress.drawn;
  in_order : map (λ (x : Settled). x.part) l.progress.settled ≡ l.progress.drawn;
  promised : AllByRecursion (IsPromised (searched g.B.Walk.template l.self.task.now) l.self.task.now.worker l.before (length l.fn.seat.view.seen) l.bench.formulas l.bench.hand.kept) l.progress.settled;
  object : l.seat.object ≡ l.fn.seat.object;
  gained : Gained (searched g.B.Walk.template l.self.task.now) l.self.task.now.worker l.fn.seat.view l.seat.view;
  stands : Stands g.B.Walk.template l.self.task.now l.bench l.seat.view.seen;
  only : l.fn.claim_seat.view ≡ opened (length (parts_in (searched g.B.Walk.template l.self.task.now))) 0 → IsFirst l.claim_seat.view;
  leads : l.fn.claim_seat.view ≡ opened (length (parts_in (searched g.B.Walk.template l.self.task.now))) 0
      → Leads (searched g.B.Walk.template l.self.task.now) (Settles l.self.task.now.protocol.now (g.B.Walk.template l.self.task.now.space.now) (take (length l.progress.drawn) (parts_in (searched g.B.Walk.template l.self.task.now)))) l.fn.seat.view l.seat.view;
}
