use Rattle.std.proofs.Common.{◌∙◌, ◌*◌, ap, arith, get_or, ℕ, List}
use Rattle.sw_universe.specs.Sizes.{capped}
use Rattle.sw_universe.specs.Counting.{count_in, choices_in}
use Rattle.sw_universe.proofs.Counted.{sum_more}
use Rattle.sw_universe.proofs.Sized.{congruence_step}
use Rattle.sw_universe.proofs.sizes.congruence.Goals as goal

pub loop-sort-preserved : goal.loop-sort-preserved
loop-sort-preserved c =
    let k = count_in c.args.counts.now in
    let args = c.args.symbol.now.args in
    let items = c.as_slice-sort-items.result.now in
    let i = c.loop-sort.sort-index in
    let f = λ (sort : ℕ). choices_in k args * k sort in
    let all = c.choices-all.ensures ∙ ap (λ (vs : List ℕ). capped (choices_in k vs)) c.as_slice.ensures in
    sum_more f items i 0 c.loop-sort.total c.add-total.result c.times.result (omega arith) c.loop-sort.invariant
    (congruence_step k args (get_or items i 0) c.choices-all.result c.times.result c.count.result c.count.ensures all c.times.ensures) c.add-total.ensures
