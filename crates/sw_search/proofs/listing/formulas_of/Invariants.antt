use Rattle.std.proofs.Common.{◌≡◌, take, map}
use Rattle.sw_enumerate.specs.Spaces.{formula_in}
use Rattle.sw_search.proofs.listing.formulas_of.Given as goal

abbrev pub invariant-loop-entry : goal.invariant-loop-entry
invariant-loop-entry l = l.formulas ≡ map (λ e. formula_in l.space e.body.cubes) (take l.entry-index l.entries)
