use Rattle.std.proofs.Common.{◌≡◌, take}
use Rattle.sw_logic.specs.Strata.{function_edges}
use Rattle.sw_strata.proofs.edges.of_functions.Given as goal

abbrev pub invariant-loop-symbol : goal.invariant-loop-symbol
invariant-loop-symbol l = l.edges ≡ function_edges (take l.symbol-index l.symbol-items)
