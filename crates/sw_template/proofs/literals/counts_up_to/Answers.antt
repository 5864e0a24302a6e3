use Rattle.std.proofs.Common.{◌∙◌}
use Rattle.sw_template.proofs.Counting.{firsts, told_all, counted_on}
use Rattle.sw_template.proofs.Declared.{have_arguments}
use Rattle.sw_template.proofs.literals.counts_up_to.Goals as goal

pub loop-init : goal.loop-init
loop-init c = c.in_ok-counts.ensures ∙ (c.as_slice-2.ensures ∙ firsts c.args.sig.now c.args.scope.now _ _ _ c.in_ok-first.ensures c.as_slice.ensures c.in_ok-table.ensures)

pub next_counts-requires-clause-first : goal.next_counts-requires-clause-first
next_counts-requires-clause-first c =
    told_all c.args.sig.now c.args.scope.now (have_arguments c.args.sig.now c.requires.signature) 0 c.as_slice-in-loop.result.now
    (c.as_slice-in-loop.ensures ∙ firsts c.args.sig.now c.args.scope.now _ _ _ c.in_ok-first.ensures c.as_slice.ensures c.in_ok-table.ensures)

pub next_counts-requires-clause-most : goal.next_counts-requires-clause-most
next_counts-requires-clause-most c = told_all c.args.sig.now c.args.scope.now (have_arguments c.args.sig.now c.requires.signature) c.loop.counter c.as_slice-in-loop-2.result.now (c.as_slice-in-loop-2.ensures ∙ c.loop.invariant)

pub loop-preserved : goal.loop-preserved
loop-preserved c =
    counted_on c.args.sig.now c.args.scope.now (have_arguments c.args.sig.now c.requires.signature) c.requires.signature c.loop.counter _ _ _ c.in_ok-counts-2.ensures
    (c.as_slice-in-loop.ensures ∙ firsts c.args.sig.now c.args.scope.now _ _ _ c.in_ok-first.ensures c.as_slice.ensures c.in_ok-table.ensures)
    (c.as_slice-in-loop-2.ensures ∙ c.loop.invariant)
