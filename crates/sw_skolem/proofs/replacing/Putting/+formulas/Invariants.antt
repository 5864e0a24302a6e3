use Rattle.std.proofs.Common.{◌≡◌, take, map}
use Rattle.sw_logic.specs.Terms.{with_terms}
use Rattle.sw_skolem.proofs.replacing.Putting.+formulas.Given as goal

abbrev pub invariant-with_all-loop-part : goal.invariant-with_all-loop-part
invariant-with_all-loop-part l = l.all ≡ map (with_terms l.self.terms.now) (take l.part-index l.parts)
