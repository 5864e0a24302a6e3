use Rattle.std.proofs.Common.{take}
use Rattle.sw_sat.specs.Occurring.{lists_of, IsIndex}
use Rattle.sw_sat.proofs.occurrences.Occurrences.of_set.Given as goal

abbrev pub invariant-loop-number : goal.invariant-loop-number
invariant-loop-number l = IsIndex l.cnf.variables (take l.number l.cnf.clauses) (lists_of l.occurrences)
