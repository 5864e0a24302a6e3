use Rattle.std.proofs.Common.{◌≡◌}
use Rattle.sw_filter.specs.Views.{NoneRejects}
use Rattle.sw_filter.proofs.view.View.sift.Given as goal

abbrev pub invariant-loop-shown : goal.invariant-loop-shown
invariant-loop-shown g l = record {
  at : l.place ≡ l.shown-index;
  none : NoneRejects l.self.protocol.now (g.B.Candidates.formula_of l.self.space.now l.body) l.self.shown.items l.shown-index;
}
