use Rattle.std.proofs.Common.{◌≡◌, ◌++◌, ◌∷◌, [], ◌-◌, ℕ, List, length, take, drop, get_or, sym, ap, ◌∙◌}
use Rattle.std.specs.Prelude.{Some, slice_get, unwrap_or}
use Rattle.sw_quotient.specs.Told.{told}
use Rattle.sw_quotient.specs.Terms.{held, number}
use Rattle.sw_quotient.specs.Classes.{class_of}
use Rattle.sw_quotient.specs.Tables.{row, tabulate}
use Rattle.sw_quotient.proofs.Making.{filled_more, leaf, whole}
use Rattle.sw_quotient.proofs.building.Making.+fill_values.Goals as goal

pub loop-t-preserved : goal.loop-t-preserved
loop-t-preserved t c =
    let v = told c.args.self.now.truths.now in
    let rest : List ℕ = take (length c.args.sorts.now - 1) (drop 1 c.args.sorts.now) in
    let listed = row c.args.self.now.leasts.now in
    let of = c.args.self.now.terms.now in
    let said = λ (ts : List ℕ). class_of v of.counts c.args.gives (number of.signature.now (held of) c.args.symbol ts) in
    let items = c.as_slice-t-items.result.now in
    let i = c.loop-t.t-index in
    let front = c.args.front.now in
    let longer : c.as_slice.result.now ≡ front ++ get_or items i 0 ∷ [] = c.as_slice.ensures ∙ c.in_ok-push-2.ensures.ok ∙ ap (λ xs. xs ++ get_or items i 0 ∷ []) c.in_ok-more.ensures in
    let filled = c.in_ok-fill_values.ensures in
    filled_more listed rest front items i said c.args.values.now c.loop-t.values c.fill_values.new.values c.loop-t-test.true c.loop-t.invariant
    (filled ∙ ap (λ (xs : List ℕ). c.loop-t.values ++ tabulate listed rest (λ ts. said (xs ++ ts))) longer)

pub returns-in_default : goal.returns-in_default
returns-in_default t c =
    let v = told c.args.self.now.truths.now in
    let listed = row c.args.self.now.leasts.now in
    let of = c.args.self.now.terms.now in
    let said = λ (ts : List ℕ). class_of v of.counts c.args.gives (number of.signature.now (held of) c.args.symbol ts) in
    leaf listed c.args.sorts.now c.args.front.now said c.args.values.now c.push.new.self c.in_ok-value.value c.in_default.len_below c.in_ok-value.ensures c.in_ok-push.ensures.ok

pub returns : goal.returns
returns t c =
    let v = told c.args.self.now.truths.now in
    let listed = row c.args.self.now.leasts.now in
    let of = c.args.self.now.terms.now in
    let said = λ (ts : List ℕ). class_of v of.counts c.args.gives (number of.signature.now (held of) c.args.symbol ts) in
    let items = c.as_slice-t-items.result.now in
    let value : Some c.in-Some.terms.now ≡ slice_get c.args.self.now.leasts.now (get_or c.args.sorts.now 0 0) = c.in-Some.ensures.value in
    let here : listed (get_or c.args.sorts.now 0 0) ≡ items = ap (λ o. unwrap_or o []) (sym value) ∙ sym c.as_slice-t-items.ensures in
    whole listed c.args.sorts.now c.args.front.now items said c.args.values.now c.loop-t.values c.loop-t.t-index c.in-len1-up.len_at_least here c.loop-t-test.false c.loop-t.invariant
