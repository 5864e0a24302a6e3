use Rattle.std.proofs.Common.{◌≡◌, ◌++◌, map, take}
use Rattle.sw_logic.specs.Strata.{edge}
use Rattle.sw_strata.proofs.edges.put_edges.Given as goal

abbrev pub invariant-loop-sort : goal.invariant-loop-sort
invariant-loop-sort l = l.edges ≡ l.initial.edges ++ map (edge l.from) (take l.sort-index l.to)
