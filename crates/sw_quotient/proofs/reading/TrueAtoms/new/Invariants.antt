use Rattle.std.proofs.Common.{◌≡◌, take}
use Rattle.sw_quotient.specs.Valuations.{valuation}
use Rattle.sw_quotient.specs.Told.{told}
use Rattle.sw_quotient.proofs.reading.TrueAtoms.new.Given as goal

abbrev pub invariant-loop-i : goal.invariant-loop-i
invariant-loop-i l = told l.truths ≡ valuation (take l.i l.atoms) (take l.i l.values)
