use Rattle.std.proofs.Common.{◌≡◌, ◌++◌, take}
use Rattle.sw_filter.specs.Filters.{AreNarrow}
use Rattle.sw_work.specs.Works.{seen_formulas}
use Rattle.sw_work.specs.Steps.{searched}
use Rattle.sw_work.proofs.bench.Desk.add_formulas.Given as goal

abbrev pub invariant-loop-entry : goal.invariant-loop-entry
invariant-loop-entry g l = record {
  are : l.formulas ≡ l.initial.formulas ++ seen_formulas (searched g.B.Walk.template l.self.task.now) (take l.entry-index l.entries);
  narrow : AreNarrow l.formulas;
}
