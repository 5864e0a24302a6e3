use Rattle.std.proofs.Common.{◌≡◌, ◌++◌, ◌∷◌, [], take}
use Rattle.std.specs.List.{flat_map}
use Rattle.sw_meaning.specs.Edges.{asserted, denied}
use Rattle.sw_protocol.proofs.strata.push_both.Given as goal

abbrev pub invariant-loop-formula : goal.invariant-loop-formula
invariant-loop-formula l = l.polars ≡ l.initial.polars ++ flat_map (λ f. asserted f ∷ denied f ∷ []) (take l.formula-index l.formulas)
