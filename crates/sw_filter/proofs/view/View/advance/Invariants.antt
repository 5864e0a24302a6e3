use Rattle.std.proofs.Common.{◌≡◌, take, drop}
use Rattle.sw_filter.specs.Views.{AreTold, AreMarked, known_of}
use Rattle.sw_filter.proofs.view.View.advance.Given as goal

abbrev pub invariant-loop-shown : goal.invariant-loop-shown
invariant-loop-shown g l = record {
  known : known_of l.shown-items ≡ known_of l.initial.shown-items;
  marked : AreMarked l.protocol l.mode l.list (take l.shown-index l.shown-items);
  told : AreTold l.protocol l.mode (take l.from l.list) (drop l.shown-index l.shown-items);
}
