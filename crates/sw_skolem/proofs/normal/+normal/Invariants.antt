use Rattle.std.proofs.Common.{◌≡◌, take, map, not}
use Rattle.sw_logic.specs.declared.syntax.Formula.{Formula}
use Rattle.sw_skolem.specs.Absorbing.{plain_nnf_of}
use Rattle.sw_skolem.proofs.normal.+normal.Given as goal

abbrev pub invariant-nnf_all-loop-part : goal.invariant-nnf_all-loop-part
invariant-nnf_all-loop-part l = l.forms ≡ map (λ (p : Formula). plain_nnf_of p (not l.negate)) (take l.part-index l.parts)
