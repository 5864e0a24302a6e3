use Rattle.std.proofs.Common.{◌≡◌, ◌+◌, ◌*◌, ◌≤◌, min, drop, length, Some, sym, ◌∙◌, ap, refl, arith}
use Rattle.std.specs.Prelude.{slice_get}
use Rattle.std.proofs.lemmas.List.{length-map}
use Rattle.std.proofs.lemmas.Option.{slice_get_read, slice_get-map, slice_get_past}
use Rattle.sw_logic.specs.Truth.{world, table_at, place, size_of, values_of, value_of, value_in}
use Rattle.sw_logic.proofs.Steps.{value_of-Apply}
use Rattle.sw_logic.proofs.Places.{drop-none, place_more, place_end, place_stop}
use Rattle.sw_logic.proofs.evaluate.World.+term.Goals as goal

pub value-returns-in-Some : goal.value-returns-in-Some
value-returns-in-Some t c =
    let w = world c.args.self.now.signature.now c.args.self.now.before.now c.args.self.now.after.now in
    let args = c.in-Apply.args in
    let found = c.value_at.ensures (place w c.in-Apply.symbol (values_of w c.args.env.now args)) (rw c.as_slice.ensures at c.place-at.ensures) in
    let table : Some c.in-Some.table.now ≡ table_at w.before w.after c.in-Apply.symbol c.in-Apply.post = c.in-Some.ensures in
    let step = value_of-Apply w c.args.env.now c.in-Apply.symbol c.in-Apply.post args in
    found ∙ ap (λ o. value_in o (place w c.in-Apply.symbol (values_of w c.args.env.now args))) table ∙ sym step ∙ ap (value_of w c.args.env.now) (sym c.in-Apply.is)

pub place-returns-in_default-get : goal.place-returns-in_default-get
place-returns-in_default-get t c =
    let w = world c.args.self.now.signature.now c.args.self.now.before.now c.args.self.now.after.now in
    let sizes = c.args.self.now.before.now.sizes in
    let symbol = c.in-Some.symbol.now in
    let values = values_of w c.args.env.now c.args.args.now in
    let done = place_end sizes (drop c.loop-i.i symbol.args) (drop c.loop-i.i values) c.loop-i.at (drop-none symbol.args c.loop-i.i (sym c.in_default-get.ensures.value)) in
    rw (← c.in-Some.ensures.value) (omega (arith, done, c.loop-i.invariant.0, c.loop-i.invariant.1))

pub place-loop-i-preserved : goal.place-loop-i-preserved
place-loop-i-preserved t c =
    let w = world c.args.self.now.signature.now c.args.self.now.before.now c.args.self.now.after.now in
    let sizes = c.args.self.now.before.now.sizes in
    let symbol = c.in-Some.symbol.now in
    let args = c.args.args.now in
    let values = values_of w c.args.env.now args in
    let arg : slice_get args c.loop-i.i ≡ Some c.index-args-i.result = slice_get_read args (length args) c.loop-i.i c.index-args-i.result refl c.loop-i-test.true c.index-args-i.is in
    let value : slice_get values c.loop-i.i ≡ Some c.value.result = slice_get-map (value_of w c.args.env.now) args c.loop-i.i ∙ rw (arg, c.value.ensures) refl in
    let next : c.saturating_add-at.result ≡ min 18446744073709551615 (c.loop-i.at * size_of sizes c.in-Some-get.sort.now + c.value.result) = rw (c.saturating_add-at.ensures, c.saturating_mul.ensures, c.size.ensures) (omega arith) in
    let more = place_more sizes symbol.args values 18446744073709551615 c.loop-i.i c.loop-i.at c.saturating_add-at.result c.in-Some-get.sort.now c.value.result (sym c.in-Some-get.ensures.value) value next in
    (omega (arith, next), more ∙ c.loop-i.invariant.1)

pub place-returns : goal.place-returns
place-returns t c =
    let w = world c.args.self.now.signature.now c.args.self.now.before.now c.args.self.now.after.now in
    let sizes = c.args.self.now.before.now.sizes in
    let symbol = c.in-Some.symbol.now in
    let args = c.args.args.now in
    let values = values_of w c.args.env.now args in
    let past : length values ≤ c.loop-i.i = rw length-map c.loop-i-test.false in
    let done = place_stop sizes (drop c.loop-i.i symbol.args) (drop c.loop-i.i values) c.loop-i.at (drop-none values c.loop-i.i (slice_get_past values c.loop-i.i past)) in
    rw (← c.in-Some.ensures.value) (omega (arith, done, c.loop-i.invariant.0, c.loop-i.invariant.1))
