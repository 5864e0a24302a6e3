use Rattle.std.proofs.Common.{All}
use Rattle.sw_refute.specs.Satisfaction.{IsOver}
use Rattle.sw_base_tests.proofs.steps.square.Given as goal

abbrev pub invariant-loop-a : goal.invariant-loop-a
invariant-loop-a l = All (IsOver 2) l.clauses
