use Rattle.std.proofs.Common.{◌≡◌, ◌-◌, ◌^◌, min, ap, ◌∙◌}
use Rattle.sw_trees.specs.declared.tree.TermTree.{TermTree}
use Rattle.sw_trees.specs.Measures.{term_nestings}
use Rattle.sw_trees.proofs.Greatest.{greatest_more}
use Rattle.sw_trees.proofs.measures.+terms.Goals as goal

pub deepest_of-loop-term-preserved : goal.deepest_of-loop-term-preserved
deepest_of-loop-term-preserved t c =
    let found : c.term_nestings.result ≡ min (2 ^ 32 - 1) (term_nestings c.term-item.result) = c.term_nestings.ensures in
    rw c.max-most.ensures
    (greatest_more term_nestings c.args.terms.now c.loop-term.term-index c.term-item.result c.loop-term.most c.term_nestings.result (2 ^ 32 - 1) c.loop-term-test.true c.loop-term.invariant
    (found ∙ ap (λ (x : TermTree). min (2 ^ 32 - 1) (term_nestings x)) c.term-item.is))
