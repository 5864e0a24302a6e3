use Rattle.std.proofs.Common.{◌≡◌, ◌++◌}
use Rattle.sw_logic.specs.Terms.{variables}
use Rattle.sw_skolem.proofs.existentials.put_variables.Given as goal

abbrev pub invariant-loop-place : goal.invariant-loop-place
invariant-loop-place l = l.terms ≡ l.initial.terms ++ variables l.first l.place
