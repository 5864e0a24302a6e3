use Rattle.std.proofs.Common.{◌≡◌, ◌-◌, ◌^◌, min, ap, ◌∙◌}
use Rattle.sw_trees.specs.declared.tree.Tree.{Tree}
use Rattle.sw_trees.specs.Measures.{longest_path}
use Rattle.sw_trees.proofs.Greatest.{greatest_more}
use Rattle.sw_trees.proofs.measures.+paths.Goals as goal

pub longest_of-loop-tree-preserved : goal.longest_of-loop-tree-preserved
longest_of-loop-tree-preserved t c =
    let found : c.longest_path.result ≡ min (2 ^ 32 - 1) (longest_path c.tree-item.result) = c.longest_path.ensures in
    rw c.max-most.ensures
    (greatest_more longest_path c.args.trees.now c.loop-tree.tree-index c.tree-item.result c.loop-tree.most c.longest_path.result (2 ^ 32 - 1) c.loop-tree-test.true c.loop-tree.invariant
    (found ∙ ap (λ (x : Tree). min (2 ^ 32 - 1) (longest_path x)) c.tree-item.is))
