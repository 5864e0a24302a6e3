use Rattle.sw_models.proofs.Onward.{more_sizes, fail_size}
use Rattle.sw_models.proofs.Whole.{handed_on}
use Rattle.sw_models.proofs.reading.read_sizes.Goals as goal

pub returns-in_err-size : goal.returns-in_err-size
returns-in_err-size c =
    handed_on c.from_residual.result _ _ c.in_err-size.field-0.0 c.from_residual.ensures.1
    (λ apart. fail_size c.args.end c.args.sorts.now c.loop-sort.sort-index c.loop-sort.sizes c.loop-sort.rest.now c.args.bytes.now c.sort-item.result c.in_err-size.field-0.0
    c.loop-sort.invariant c.loop-sort-test.true c.sort-item.is (c.in_err-size.ensures c.loop-sort.sizes))

pub loop-sort-preserved : goal.loop-sort-preserved
loop-sort-preserved c =
    more_sizes c.args.end c.args.sorts.now c.loop-sort.sort-index c.loop-sort.sizes c.push.new.self c.loop-sort.rest.now c.args.bytes.now c.in_ok-size.below.now c.sort-item.result
    c.in_ok-size.size c.loop-sort.invariant c.loop-sort-test.true c.sort-item.is c.in_ok-push.ensures.ok (c.in_ok-size.ensures c.loop-sort.sizes)
