use Rattle.std.proofs.Common.{take}
use Rattle.sw_sat.specs.Trail.{literals}
use Rattle.sw_sat.proofs.Examined.{StandsSoFar}
use Rattle.sw_sat.proofs.propagate.examine.Given as goal

abbrev pub invariant-loop-lit : goal.invariant-loop-lit
invariant-loop-lit l = StandsSoFar (literals l.trail.entries.items) (take l.lit-index l.clause.lits) l.standing
