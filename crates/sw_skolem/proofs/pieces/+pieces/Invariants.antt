use Rattle.std.proofs.Common.{◌≡◌, take}
use Rattle.std.specs.List.{flat_map}
use Rattle.sw_skolem.specs.Pieces.{pieces_of}
use Rattle.sw_skolem.proofs.pieces.+pieces.Given as goal

abbrev pub invariant-all_pieces-loop-formula : goal.invariant-all_pieces-loop-formula
invariant-all_pieces-loop-formula l = l.all ≡ flat_map (pieces_of l.count) (take l.formula-index l.formulas)
