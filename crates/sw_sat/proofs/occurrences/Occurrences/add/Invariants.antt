use Rattle.std.proofs.Common.{take}
use Rattle.sw_sat.specs.Occurring.{lists_of, HasAdded}
use Rattle.sw_sat.proofs.occurrences.Occurrences.add.Given as goal

abbrev pub invariant-loop-lit : goal.invariant-loop-lit
invariant-loop-lit l = HasAdded (lists_of l.initial.self) (take l.lit-index l.clause.lits) l.number (lists_of l.self)
