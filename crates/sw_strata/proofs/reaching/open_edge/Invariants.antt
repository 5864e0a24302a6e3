use Rattle.std.proofs.Common.{◌≡◌, take, false}
use Rattle.std.specs.List.{list_any}
use Rattle.sw_strata.specs.Reaching.{is_open}
use Rattle.sw_strata.proofs.reaching.open_edge.Given as goal

abbrev pub invariant-loop-edge : goal.invariant-loop-edge
invariant-loop-edge l = list_any (is_open l.start l.found) (take l.edge-index l.edges) ≡ false
