use Rattle.std.proofs.Common.{◌≡◌, ◌∙◌, true, false, length, map, Some, sym, ap, refl, arith}
use Rattle.std.specs.Prelude.{slice_get}
use Rattle.std.proofs.lemmas.List.{length-map}
use Rattle.std.proofs.lemmas.Option.{slice_get_read, slice_get-map, slice_get-get_or}
use Rattle.std.proofs.lemmas.Grind.{common_steps}
use Rattle.sw_logic.specs.InScope.{sorts_in}
use Rattle.sw_logic.specs.Sorted.{same_sort, sort_of, sorts_of}
use Rattle.sw_logic.proofs.Matching.{sorts_match-short, sorts_match-more, sorts_match-end, same_sort-option_eq}
use Rattle.sw_logic.proofs.sorting.Sorting.+sorts.Goals as goal

pub are_of-returns-in_default : goal.are_of-returns-in_default
are_of-returns-in_default t c =
    let found = sorts_of c.args.self.now.signature.now c.args.self.now.post (sorts_in c.args.scope.now) c.args.args.now in
    let long : length found ≡ length c.args.args.now = length-map _ _ in
    sorts_match-short c.args.sorts.now found c.loop-i.i c.in_default.ensures.lookup.3 (omega (arith, long, c.loop-i-test.true)) ∙ c.loop-i.invariant.1

pub are_of-returns-then-ne : goal.are_of-returns-then-ne
are_of-returns-then-ne t c =
    let sig = c.args.self.now.signature.now in
    let sort = sort_of sig c.args.self.now.post (sorts_in c.args.scope.now) in
    let args = c.args.args.now in
    let found = map sort args in
    let arg : slice_get args c.loop-i.i ≡ Some c.index-args-i.result = slice_get_read args (length args) c.loop-i.i c.index-args-i.result refl c.loop-i-test.true c.index-args-i.is in
    let o : slice_get found c.loop-i.i ≡ Some c.sort_of.result = slice_get-map sort args c.loop-i.i ∙ rw (arg, c.sort_of.ensures) refl in
    let at : slice_get c.args.sorts.now c.loop-i.i ≡ Some c.in-Some.sort.now =
    slice_get-get_or c.args.sorts.now c.loop-i.i c.in-Some.sort.now c.in-Some.ensures.lookup.3.0 ∙ ap Some (sym c.in-Some.ensures.lookup.1) in
    let more = sorts_match-more c.args.sorts.now found c.loop-i.i c.in-Some.sort.now c.sort_of.result at o in
    let test = same_sort-option_eq c.in-Some.sort.now c.sort_of.result in
    let apart : same_sort (Some c.in-Some.sort.now) c.sort_of.result ≡ false = test ∙ grind (arith, common_steps, c.if-ne.ensures) in
    sym (rw apart at more) ∙ c.loop-i.invariant.1

pub are_of-loop-i-preserved : goal.are_of-loop-i-preserved
are_of-loop-i-preserved t c =
    let sig = c.args.self.now.signature.now in
    let sort = sort_of sig c.args.self.now.post (sorts_in c.args.scope.now) in
    let args = c.args.args.now in
    let found = map sort args in
    let arg : slice_get args c.loop-i.i ≡ Some c.index-args-i.result = slice_get_read args (length args) c.loop-i.i c.index-args-i.result refl c.loop-i-test.true c.index-args-i.is in
    let o : slice_get found c.loop-i.i ≡ Some c.sort_of.result = slice_get-map sort args c.loop-i.i ∙ rw (arg, c.sort_of.ensures) refl in
    let at : slice_get c.args.sorts.now c.loop-i.i ≡ Some c.in-Some.sort.now =
    slice_get-get_or c.args.sorts.now c.loop-i.i c.in-Some.sort.now c.in-Some.ensures.lookup.3.0 ∙ ap Some (sym c.in-Some.ensures.lookup.1) in
    let more = sorts_match-more c.args.sorts.now found c.loop-i.i c.in-Some.sort.now c.sort_of.result at o in
    let test = same_sort-option_eq c.in-Some.sort.now c.sort_of.result in
    let same : same_sort (Some c.in-Some.sort.now) c.sort_of.result ≡ true = test ∙ grind (arith, common_steps, c.if-ne.ensures) in
    (omega (arith, c.in-Some.ensures.lookup.3.0), sym (rw same at more) ∙ c.loop-i.invariant.1)

pub are_of-returns : goal.are_of-returns
are_of-returns t c =
    let found = sorts_of c.args.self.now.signature.now c.args.self.now.post (sorts_in c.args.scope.now) c.args.args.now in
    let long : length found ≡ length c.args.args.now = length-map _ _ in
    sorts_match-end c.args.sorts.now found c.loop-i.i (length c.args.args.now) (omega (arith, long, c.loop-i-test.false, c.loop-i.auto.i-end)) (sym long) c.loop-i.invariant.0 ∙ c.loop-i.invariant.1
