-- The greatest so far.
use Rattle.std.proofs.Common.{◌≡◌, ◌-◌, ◌^◌, map, take, min}
use Rattle.sw_trees.specs.Measures.{greatest, longest_path}
use Rattle.sw_trees.proofs.measures.+paths.Given as goal

abbrev pub invariant-longest_of-loop-tree : goal.invariant-longest_of-loop-tree
invariant-longest_of-loop-tree l = l.most ≡ min (2 ^ 32 - 1) (greatest (map longest_path (take l.tree-index l.trees)))
