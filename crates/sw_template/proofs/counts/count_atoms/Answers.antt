use Rattle.std.proofs.Common.{ap, ◌∙◌}
use Rattle.sw_cover.specs.Counting.{total, binomial}
use Rattle.sw_meaning.specs.Classes.{is_relation, symbols_of}
use Rattle.sw_template.specs.Counts.{capped, count_at, arguments_at}
use Rattle.sw_template.proofs.Counting.{capped_sum_step, plus, total_next}
use Rattle.sw_template.proofs.Numbered.{total_one}
use Rattle.sw_template.proofs.Termed.{item_of}
use Rattle.sw_template.proofs.counts.count_atoms.Goals as goal

pub loop-symbol-preserved : goal.loop-symbol-preserved
loop-symbol-preserved c =
    capped_sum_step c.loop-symbol.count c.relation_count.result _ _ _ c.capped_sum-count.result c.loop-symbol.invariant c.relation_count.ensures
    (total_one c.loop-symbol.symbol-index c.args.sig.now.symbols c.symbol-item.result (item_of c.loop-symbol.symbol-index c.args.sig.now.symbols c.as_slice-symbol-items.result.now c.symbol-item.result c.as_slice-symbol-items.ensures c.loop-symbol-test.true c.symbol-item.is)
    (λ s. is_relation s.1.kind) (λ s. is_relation s.1.kind) (λ s. arguments_at c.args.counts.now s.1))
    c.capped_sum-count.ensures

pub loop-sort-preserved : goal.loop-sort-preserved
loop-sort-preserved c =
    capped_sum_step c.loop-sort.count c.capped_pairs.result _ (binomial (count_at c.args.counts.now c.loop-sort.sort) 2) _ c.capped_sum-count-in-loop-sort.result c.loop-sort.invariant
    (c.capped_pairs.ensures ∙ ap (λ n. capped (binomial n 2)) c.count_of.ensures.is)
    (plus (total (λ s. arguments_at c.args.counts.now s.1) (symbols_of c.args.sig.now is_relation)) _ _ _ (total_next (λ sort. binomial (count_at c.args.counts.now sort) 2) c.loop-sort.sort))
    c.capped_sum-count-in-loop-sort.ensures
