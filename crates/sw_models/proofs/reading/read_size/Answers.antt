use Rattle.sw_models.proofs.Faults.{no_size, zero_size}
use Rattle.sw_models.proofs.reading.read_size.Goals as goal

pub returns-in-None : goal.returns-in-None
returns-in-None c sizes =
    no_size sizes c.args.at c.args.sort.now c.as_str.result.now c.in-Some.body.now c.in-Some.below.now c.args.bytes.now c.as_str.ensures c.in-Some.ensures c.in-None.ensures

pub returns-in-Some-eq0 : goal.returns-in-Some-eq0
returns-in-Some-eq0 c sizes =
    zero_size sizes c.args.at c.in-Some-eq0.field-0 c.args.sort.now c.as_str.result.now c.in-Some.body.now c.in-Some.below.now c.args.bytes.now c.as_str.ensures c.in-Some.ensures
    (c.in-Some-eq0.ensures.0) c.in-Some-eq0.field-0-test
