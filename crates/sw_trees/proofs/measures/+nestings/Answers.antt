use Rattle.std.proofs.Common.{◌≡◌, ◌-◌, ◌^◌, ◌+◌, take, min, ap, rules, arith, ◌∙◌}
use Rattle.sw_trees.specs.declared.tree.Tree.{Tree}
use Rattle.sw_trees.specs.declared.tree.Tree.{the_lemmas}
use Rattle.sw_trees.specs.declared.tree.Tree.TheVariants as tree
use Rattle.sw_trees.specs.Measures.{bare, nestings_of}
use Rattle.sw_trees.proofs.Greatest.{greatest_more, operands_map}
use Rattle.sw_trees.proofs.measures.+nestings.Goals as goal

pub nestings_of-returns-in-Constant : goal.nestings_of-returns-in-Constant
nestings_of-returns-in-Constant t c =
    let e : nestings_of (tree.Constant c.in-Constant.field-0) ≡ bare 0 = search (rules, the_lemmas) in
    rw (c.in-Constant.is, e) (c.bare.ensures 0 (omega arith))

pub operands-loop-tree-preserved : goal.operands-loop-tree-preserved
operands-loop-tree-preserved t c =
    let cap = 2 ^ 32 - 1 in
    let found : c.nestings_of.result.operand ≡ min (2 ^ 32 - 1) (nestings_of c.tree-item.result).operand = c.nestings_of.ensures.operand in
    rw (c.max-most.ensures, operands_map (take (c.loop-tree.tree-index + 1) c.args.trees.now))
    (greatest_more (λ (x : Tree). (nestings_of x).operand) c.args.trees.now c.loop-tree.tree-index c.tree-item.result c.loop-tree.most c.nestings_of.result.operand (2 ^ 32 - 1) c.loop-tree-test.true
    (c.loop-tree.invariant ∙ ap (min (2 ^ 32 - 1)) (operands_map (take c.loop-tree.tree-index c.args.trees.now)))
    (found ∙ ap (λ (x : Tree). min (2 ^ 32 - 1) (nestings_of x).operand) c.tree-item.is))
