use Rattle.std.proofs.Common.{◌≡◌, take}
use Rattle.sw_logic.specs.Strata.{edges_between}
use Rattle.sw_strata.proofs.edges.between.Given as goal

abbrev pub invariant-loop-sort : goal.invariant-loop-sort
invariant-loop-sort l = l.edges ≡ edges_between (take l.sort-index l.from) l.to
