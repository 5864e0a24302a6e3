use Rattle.std.proofs.Common.{◌≡◌}
use Rattle.sw_meaning.specs.Plain.{Passage, Until}
use Rattle.sw_walk.specs.Parts.{part_at}
use Rattle.sw_work.specs.Works.{Gained}
use Rattle.sw_work.specs.Steps.{Classes, IsLone, Stands, KeepsMore, searched, seen_classes}
use Rattle.sw_work.proofs.bench.Desk.settle_part.Given as goal

-- alone, from here to a list gives from the beginning to it, and the other way round
abbrev pub invariant-loop : goal.invariant-loop
invariant-loop g l = record {
  object : l.seat.object ≡ l.fn.seat.object;
  gained : Gained (searched g.B.Walk.template l.self.task.now) l.self.task.now.worker l.fn.seat.view l.seat.view;
  stands : Stands g.B.Walk.template l.self.task.now l.bench l.seat.view.seen;
  kept : KeepsMore l.fn.bench.hand.kept l.bench.hand.kept;
  until : IsLone (searched g.B.Walk.template l.self.task.now) l.fn.seat.view → (h : Classes)
      → Until (Passage l.self.task.now.protocol.now (g.B.Walk.template l.self.task.now.space.now) (part_at (g.B.Walk.part_lists l.self.task.now.space.now) l.part)) (seen_classes l.seat.view) h
      → Until (Passage l.self.task.now.protocol.now (g.B.Walk.template l.self.task.now.space.now) (part_at (g.B.Walk.part_lists l.self.task.now.space.now) l.part)) (seen_classes l.fn.seat.view) h;
  back : IsLone (searched g.B.Walk.template l.self.task.now) l.fn.seat.view → IsLone (searched g.B.Walk.template l.self.task.now) l.seat.view × ((h : Classes)
      → Until (Passage l.self.task.now.protocol.now (g.B.Walk.template l.self.task.now.space.now) (part_at (g.B.Walk.part_lists l.self.task.now.space.now) l.part)) (seen_classes l.fn.seat.view) h
      → Until (Passage l.self.task.now.protocol.now (g.B.Walk.template l.self.task.now.space.now) (part_at (g.B.Walk.part_lists l.self.task.now.space.now) l.part)) (seen_classes l.seat.view) h);
}
