use Rattle.std.proofs.Common.{◌≡◌, ◌++◌, take}
use Rattle.std.specs.List.{flat_map}
use Rattle.sw_logic.specs.declared.query.Polar.{Polar}
use Rattle.sw_logic.specs.Strata.{formula_edges}
use Rattle.sw_strata.proofs.edges.all_edges.Given as goal

abbrev pub invariant-loop-asserted : goal.invariant-loop-asserted
invariant-loop-asserted l = l.edges ≡ l.initial.edges ++ flat_map (λ (p : Polar). formula_edges p.formula p.positive) (take l.asserted-index l.formulas)
