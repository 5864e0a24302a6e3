use Rattle.std.proofs.Common.{◌≡◌, take}
use Rattle.sw_skolem.specs.Forming.{variables_at}
use Rattle.sw_skolem.proofs.existentials.variables_at.Given as goal

abbrev pub invariant-loop-universal : goal.invariant-loop-universal
invariant-loop-universal l = l.terms ≡ variables_at (take l.universal-index l.universals)
