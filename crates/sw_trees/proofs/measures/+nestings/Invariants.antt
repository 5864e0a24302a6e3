-- The greatest so far.
use Rattle.std.proofs.Common.{◌≡◌, ◌-◌, ◌^◌, map, take, min}
use Rattle.sw_trees.specs.Measures.{operands, nestings_of}
use Rattle.sw_trees.proofs.measures.+nestings.Given as goal

abbrev pub invariant-operands-loop-tree : goal.invariant-operands-loop-tree
invariant-operands-loop-tree l = l.most ≡ min (2 ^ 32 - 1) (operands (map nestings_of (take l.tree-index l.trees)))
