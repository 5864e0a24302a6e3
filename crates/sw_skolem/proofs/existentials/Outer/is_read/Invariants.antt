use Rattle.std.proofs.Common.{◌≡◌, take, false}
use Rattle.sw_skolem.specs.Forming.{is_read}
use Rattle.sw_skolem.proofs.existentials.Outer.is_read.Given as goal

abbrev pub invariant-loop-variable : goal.invariant-loop-variable
invariant-loop-variable l = is_read (take l.variable l.term-items) l.formula l.universal ≡ false
