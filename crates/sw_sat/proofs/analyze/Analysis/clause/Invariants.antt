use Rattle.std.proofs.Common.{take}
use Rattle.sw_sat.specs.Analysis.{NegatesSeen}
use Rattle.sw_sat.specs.Trail.{literals}
use Rattle.sw_sat.proofs.analyze.Analysis.clause.Given as goal

abbrev pub invariant-loop-entry : goal.invariant-loop-entry
invariant-loop-entry l = NegatesSeen l.self.seen.items (literals (take l.entry-index l.entries)) (record { lits = l.lits })
