use Rattle.std.proofs.Common.{◌≡◌, map, take}
use Rattle.sw_skolem.specs.Pieces.{bound}
use Rattle.sw_skolem.proofs.pieces.each_bound.Given as goal

abbrev pub invariant-loop-piece : goal.invariant-loop-piece
invariant-loop-piece l = l.all ≡ map (bound l.variable l.binder) (take l.piece-index l.pieces)
