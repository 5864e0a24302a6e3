use Rattle.std.proofs.Common.{◌≡◌, ◌++◌, ◌∷◌, length, take}
use Rattle.std.specs.List.{flat_map}
use Rattle.sw_quotient.specs.Terms.{held, number}
use Rattle.sw_quotient.specs.Classes.{class_of}
use Rattle.sw_quotient.specs.Told.{told}
use Rattle.sw_quotient.specs.Tables.{row, tabulate}
use Rattle.sw_quotient.proofs.building.Making.+fill_values.Given as goal

abbrev pub decreases-fill_values : goal.decreases-fill_values
decreases-fill_values l = length l.sorts.now

abbrev pub invariant-loop-t : goal.invariant-loop-t
invariant-loop-t l =
    let v = told l.self.truths.now in
    let of = l.self.terms.now in
    l.values ≡ l.initial.values ++ flat_map (λ t. tabulate (row l.self.leasts.now) l.rest (λ ts. class_of v of.counts l.gives (number of.signature.now (held of) l.symbol (l.front ++ t ∷ ts)))) (take l.t-index l.t-items)
