use Rattle.std.proofs.Common.{◌≡◌}
use Rattle.sw_skolem.specs.Forming.{universals_of}
use Rattle.sw_skolem.proofs.existentials.Outer.universals.Given as goal

abbrev pub invariant-loop-universal : goal.invariant-loop-universal
invariant-loop-universal l = l.universals ≡ universals_of l.self.terms l.universal l.formula
