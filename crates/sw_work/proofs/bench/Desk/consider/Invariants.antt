use Rattle.std.proofs.Common.{◌≡◌, true, false}
use Rattle.sw_log.specs.LogSteps.{IsAlone}
use Rattle.sw_work.specs.Works.{Gained}
use Rattle.sw_work.specs.Steps.{Stands, Moves, KeepsMore, searched}
use Rattle.sw_work.proofs.bench.Desk.consider.Given as goal

-- the list has grown only behind another's entry, which no lone worker meets
abbrev pub invariant-loop : goal.invariant-loop
invariant-loop g l = record {
  object : l.seat.object ≡ l.fn.seat.object;
  gained : Gained (searched g.B.Walk.template l.self.task.now) l.self.task.now.worker l.fn.seat.view l.seat.view;
  stands : Stands g.B.Walk.template l.self.task.now l.bench l.seat.view.seen;
  kept : KeepsMore l.fn.bench.hand.kept l.bench.hand.kept;
  moves : Moves l.fn.seat.view l.seat.view l.changed;
  same : l.changed ≡ false → (l.seat.view ≡ l.fn.seat.view) × (l.bench ≡ l.fn.bench);
  behind : l.changed ≡ true → IsAlone l.fn.seat.view → ⊥;
}
