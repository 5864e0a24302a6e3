-- The variables so far.
use Rattle.std.proofs.Common.{◌≡◌, ◌++◌}
use Rattle.sw_template.proofs.Made.{binders_to}
use Rattle.sw_template.proofs.formulas.push_binders.Given as goal

abbrev pub invariant-loop-n : goal.invariant-loop-n
invariant-loop-n l = l.binders ≡ l.initial.binders ++ binders_to l.before l.run.sort l.n
