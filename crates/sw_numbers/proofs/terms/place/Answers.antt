use Rattle.std.proofs.Common.{arith}
use Rattle.std.proofs.lemmas.Option.{slice_get-get_or}
use Rattle.sw_numbers.proofs.Placing.{place_kept, place_done}
use Rattle.sw_numbers.proofs.terms.place.Goals as goal

pub loop-i-preserved : goal.loop-i-preserved
loop-i-preserved c =
    let e = c.in-Some.ensures in
    place_kept c.args.sizes.now c.args.sorts.now c.args.numbers.now c.loop-i.i c.loop-i.at c.in-Some.next _ e.0 e.1 e.2 (slice_get-get_or c.args.numbers.now c.loop-i.i 0 c.loop-i-test.true) c.loop-i.invariant

pub returns : goal.returns
returns c = place_done c.args.sizes.now c.args.sorts.now c.args.numbers.now c.loop-i.i c.loop-i.at (omega arith) c.loop-i.invariant
