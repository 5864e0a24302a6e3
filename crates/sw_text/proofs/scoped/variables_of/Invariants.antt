-- The variables so far are numbered.
use Rattle.std.proofs.Common.{◌≡◌, take}
use Rattle.sw_text.specs.Scoped.{numbered}
use Rattle.sw_text.proofs.scoped.variables_of.Given as goal

abbrev pub invariant-loop-i : goal.invariant-loop-i
invariant-loop-i l = l.variables.items ≡ numbered 0 (take l.i l.scope.sorts)
