use Rattle.std.proofs.Common.{◌≡◌, false, take, slice_get, option_map, IfSome}
use Rattle.std.specs.List.{AllByRecursion}
use Rattle.sw_meaning.specs.Plain.{Passage}
use Rattle.sw_walk.specs.Parts.{part_at}
use Rattle.sw_hand.specs.Hands.{IsGoodBy}
use Rattle.sw_work.specs.Works.{Gained}
use Rattle.sw_work.specs.Steps.{Stands, Moves, Leads, KeepsMore, searched}
use Rattle.sw_work.proofs.bench.Desk.pass_part.Given as goal

abbrev pub invariant-loop-at : goal.invariant-loop-at
invariant-loop-at g l = record {
  next : option_map (λ b. b.cubes) l.next ≡ slice_get (part_at (g.B.Walk.part_lists l.self.task.now.space.now) l.part) l.at;
  single : IfSome l.next (λ b. b.template ≡ 0);
  object : l.seat.object ≡ l.fn.seat.object;
  gained : Gained (searched g.B.Walk.template l.self.task.now) l.self.task.now.worker l.fn.seat.view l.seat.view;
  stands : Stands g.B.Walk.template l.self.task.now l.bench l.seat.view.seen;
  kept : KeepsMore l.fn.bench.hand.kept l.bench.hand.kept;
  moves : Moves l.fn.seat.view l.seat.view l.changed;
  good : l.changed ≡ false → AllByRecursion (IsGoodBy (searched g.B.Walk.template l.self.task.now) l.bench.formulas l.bench.hand.kept l.bench.hand.used.items) (take l.at (part_at (g.B.Walk.part_lists l.self.task.now.space.now) l.part));
  leads : Leads (searched g.B.Walk.template l.self.task.now) (Passage l.self.task.now.protocol.now (g.B.Walk.template l.self.task.now.space.now) (take l.at (part_at (g.B.Walk.part_lists l.self.task.now.space.now) l.part))) l.fn.seat.view l.seat.view;
}
