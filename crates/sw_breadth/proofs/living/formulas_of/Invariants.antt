use Rattle.std.proofs.Common.{◌≡◌, take}
use Rattle.sw_filter.specs.Filters.{AreNarrow}
use Rattle.sw_filter.specs.declared.filter.Mode.TheVariants.{Breadth}
use Rattle.sw_core.specs.Gathered.{formulas_of}
use Rattle.sw_hand.specs.Hands.{search_of}
use Rattle.sw_breadth.proofs.living.formulas_of.Given as goal

abbrev pub invariant-loop-entry : goal.invariant-loop-entry
invariant-loop-entry g l =
    (l.formulas.items ≡ formulas_of (search_of l.task.protocol.now (g.B.Walk.template l.task.space.now) Breadth l.task.workers) (take l.entry-index l.entries)) × AreNarrow l.formulas.items
