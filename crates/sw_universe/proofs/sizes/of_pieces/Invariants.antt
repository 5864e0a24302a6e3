use Rattle.std.proofs.Common.{◌≡◌, take}
use Rattle.sw_truth.specs.declared.sets.Piece.{Piece}
use Rattle.std.specs.List.{sum_by}
use Rattle.sw_universe.specs.Sizes.{capped}
use Rattle.sw_universe.specs.Counting.{count_in, choices_in}
use Rattle.sw_universe.proofs.sizes.of_pieces.Given as goal

abbrev pub invariant-loop-piece : goal.invariant-loop-piece
invariant-loop-piece l = l.total ≡ capped (sum_by (λ (p : Piece). choices_in (count_in l.counts) p.vars) (take l.piece-index l.pieces))
