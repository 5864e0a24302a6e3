use Rattle.std.proofs.Common.{◌≡◌, ◌++◌, ◌∷◌, [], ◌-◌, ℕ, List, length, take, drop, get_or, ap, ◌∙◌}
use Rattle.sw_quotient.specs.Told.{told}
use Rattle.sw_quotient.specs.Tables.{row, tabulate}
use Rattle.sw_quotient.proofs.Making.{filled_more}
use Rattle.sw_quotient.proofs.building.Making.+fill_bits.Goals as goal

pub loop-t-preserved : goal.loop-t-preserved
loop-t-preserved t c =
    let v = told c.args.self.now.truths.now in
    let rest : List ℕ = take (length c.args.sorts.now - 1) (drop 1 c.args.sorts.now) in
    let listed = row c.args.self.now.leasts.now in
    let items = c.as_slice-t-items.result.now in
    let i = c.loop-t.t-index in
    let front = c.args.front.now in
    let longer : c.as_slice.result.now ≡ front ++ get_or items i 0 ∷ [] = c.as_slice.ensures ∙ c.in_ok-push.ensures.ok ∙ ap (λ xs. xs ++ get_or items i 0 ∷ []) c.in_ok-more.ensures in
    let filled = c.in_ok-fill_bits.ensures in
    filled_more listed rest front items i (v.holds c.args.symbol) c.args.bits.now c.loop-t.bits c.fill_bits.new.bits c.loop-t-test.true c.loop-t.invariant
    (filled ∙ ap (λ (xs : List ℕ). c.loop-t.bits ++ tabulate listed rest (λ ts. v.holds c.args.symbol (xs ++ ts))) longer)
