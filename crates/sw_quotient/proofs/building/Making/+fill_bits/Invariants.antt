use Rattle.std.proofs.Common.{◌≡◌, ◌++◌, ◌∷◌, length, take}
use Rattle.std.specs.List.{flat_map}
use Rattle.sw_quotient.specs.Told.{told}
use Rattle.sw_quotient.specs.Tables.{row, tabulate}
use Rattle.sw_quotient.proofs.building.Making.+fill_bits.Given as goal

abbrev pub decreases-fill_bits : goal.decreases-fill_bits
decreases-fill_bits l = length l.sorts.now

abbrev pub invariant-loop-t : goal.invariant-loop-t
invariant-loop-t l =
    let v = told l.self.truths.now in
    l.bits ≡ l.initial.bits ++ flat_map (λ t. tabulate (row l.self.leasts.now) l.rest (λ ts. v.holds l.symbol (l.front ++ t ∷ ts))) (take l.t-index l.t-items)
