use Rattle.std.proofs.Common.{◌≡◌, take}
use Rattle.std.specs.List.{flat_map}
use Rattle.sw_logic.specs.declared.syntax.Formula.{Formula}
use Rattle.sw_strata.specs.Edges.{edges_in}
use Rattle.sw_strata.proofs.edges.Scope.+edges.Given as goal

abbrev pub invariant-all_edges-loop-part : goal.invariant-all_edges-loop-part
invariant-all_edges-loop-part l = l.edges ≡ flat_map (λ (f : Formula). edges_in f l.positive l.self.sorts) (take l.part-index l.parts)
