use Rattle.std.proofs.Common.{◌≡◌, ◌++◌, map, take}
use Rattle.sw_truth.specs.declared.instances.Instance.TheVariants.{Of}
use Rattle.sw_instances.proofs.instances.push_piece.Given as goal

abbrev pub invariant-loop-terms : goal.invariant-loop-terms
invariant-loop-terms l = l.all ≡ l.initial.all ++ map (Of l.fn.piece) (take l.terms-index l.tuples)
