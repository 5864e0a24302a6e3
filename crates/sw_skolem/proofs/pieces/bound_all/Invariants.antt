use Rattle.std.proofs.Common.{◌≡◌, ◌+◌, ◌≤◌, drop, length}
use Rattle.sw_skolem.specs.Pieces.{bound_all}
use Rattle.sw_skolem.proofs.pieces.bound_all.Given as goal

abbrev pub invariant-loop-at : goal.invariant-loop-at
invariant-loop-at l = (l.pieces ≡ bound_all (l.first + l.at) (drop l.at l.binders) l.initial.pieces) × (l.at ≤ length l.binders)

abbrev pub decreases-loop-at : goal.decreases-loop-at
decreases-loop-at l = l.at
