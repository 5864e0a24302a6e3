use Rattle.std.proofs.Common.{take}
use Rattle.sw_refute.specs.Trail.{IsStatus}
use Rattle.sw_refute.proofs.trail.Trail.status.Given as goal

-- the status of the literals so far
abbrev pub invariant-loop-lit : goal.invariant-loop-lit
invariant-loop-lit l = IsStatus l.self.lits.items (record { lits = take l.lit-index l.lit-items }) l.status
