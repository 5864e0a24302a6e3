use Rattle.std.proofs.Common.{◌≡◌}
use Rattle.sw_seek.specs.Steps.{HasSettled, Holds, searched}
use Rattle.sw_seek.proofs.Draws.{Passed, Runs}
use Rattle.sw_seek.proofs.considering.Seeking.draw.Given as goal

abbrev pub invariant-loop : goal.invariant-loop
invariant-loop g l = record {
  object : l.seat.object ≡ l.initial.seat.object;
  holds : Holds g.B.Walk.template l.self l.hand;
  runs : Runs l.initial.seat.view l.seat.view l.progress.drawn;
  settled : HasSettled (searched g.B.Walk.template l.self) l.self.task.now.worker l.self.entries.now l.hand.kept l.progress;
  passes : Passed (searched g.B.Walk.template l.self) l.self.entries.now l.initial.seat.view l.progress.drawn;
}
