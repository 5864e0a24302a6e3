use Rattle.std.proofs.Common.{below_more, inl, inr, arith}
use Rattle.sw_sat.proofs.solver.unassigned.Goals as goal
use Rattle.sw_sat.proofs.solver.unassigned.Goals.{else-not-is_true-via-then-not-is_true+else-not-is_true-2, else-not-is_true-via-else-not-is_true}

pub loop-variable-preserved : goal.loop-variable-preserved
loop-variable-preserved c = below_more _ _ c.loop-variable.invariant (elim c.else-not-is_true.branch [
  | else-not-is_true-via-then-not-is_true+else-not-is_true-2 w ↦ inr (w.is_true-then-not-is_true.ensures.0 w.if-not-is_true-2.false)
  | else-not-is_true-via-else-not-is_true w ↦ inl (c.is_true.ensures.0 w.if-not-is_true.false)
])

pub returns : goal.returns
returns c = λ v h. c.loop-variable.invariant v (omega arith)
