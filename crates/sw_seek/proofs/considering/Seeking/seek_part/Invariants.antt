use Rattle.std.proofs.Common.{◌≡◌, take, slice_get, option_map, IfSome}
use Rattle.std.specs.List.{AllByRecursion}
use Rattle.sw_walk.specs.Parts.{part_at}
use Rattle.sw_hand.specs.Hands.{IsGoodBy}
use Rattle.sw_seek.specs.Steps.{Holds, KeepsMore, searched}
use Rattle.sw_seek.proofs.considering.Seeking.seek_part.Given as goal

abbrev pub invariant-loop-at : goal.invariant-loop-at
invariant-loop-at g l = record {
  next : option_map (λ b. b.cubes) l.next ≡ slice_get (part_at (g.B.Walk.part_lists l.self.task.now.space.now) l.part) l.at;
  single : IfSome l.next (λ b. b.template ≡ 0);
  holds : Holds g.B.Walk.template l.self l.hand;
  kept : KeepsMore l.initial.hand.kept l.hand.kept;
  good : AllByRecursion (IsGoodBy (searched g.B.Walk.template l.self) l.self.entries.now l.hand.kept l.hand.used.items)
      (take l.at (part_at (g.B.Walk.part_lists l.self.task.now.space.now) l.part));
}
