use Rattle.std.proofs.Common.{◌≡◌, take}
use Rattle.sw_quotient.specs.Terms.{held}
use Rattle.sw_quotient.specs.Told.{told}
use Rattle.sw_quotient.specs.Tables.{tables_from}
use Rattle.sw_quotient.proofs.building.Making.tables.Given as goal

abbrev pub invariant-loop-i : goal.invariant-loop-i
invariant-loop-i l = let of = l.self.terms.now in l.tables ≡ tables_from of.signature.now (held of) (told l.self.truths.now) 0 (take l.i l.symbols)
