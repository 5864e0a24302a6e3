use Rattle.std.proofs.Common.{◌≡◌, ℕ, ◌<◌, refl, sym, ap, subst, ◌∙◌, inl, inr, arith, Some, slice_get, length, Contains}
use Rattle.std.proofs.lemmas.Bool.{cases_lt}
use Rattle.std.proofs.lemmas.Option.{slice_get_past, slice_get_read}
use Rattle.sw_filter.proofs.admitting.others_stay.Goals as goal
use Rattle.sw_filter.proofs.admitting.others_stay.Goals.{else-not-is_listed-via-then-not-is_listed+else-not-are_same, else-not-is_listed-via-else-not-is_listed}

pub loop-symbol-preserved : goal.loop-symbol-preserved
loop-symbol-preserved c symbol below unlisted = elim (cases_lt symbol c.loop-symbol.symbol) [
  | inl before ↦ c.loop-symbol.invariant symbol before unlisted
  | inr past ↦
      let n : ℕ = c.loop-symbol.symbol in
      let here : symbol ≡ n = omega (arith, below) in
      let within : n < length c.args.before.now = c.loop-symbol-test.true in
      elim c.else-not-is_listed.branch [
        | else-not-is_listed-via-then-not-is_listed+else-not-are_same w ↦
            let first = slice_get_read c.args.before.now (length c.args.before.now) n w.index-before-symbol.result refl within w.index-before-symbol.is in
            let second = slice_get_read c.args.after.now (length c.args.before.now) n w.index-after-symbol.result c.requires within w.index-after-symbol.is in
            ap (slice_get c.args.before.now) here ∙ (first ∙ (ap Some (w.are_same.ensures.0 w.if-not-are_same.false) ∙ (sym second ∙ ap (slice_get c.args.after.now) (sym here))))
        | else-not-is_listed-via-else-not-is_listed w ↦ absurd (unlisted (subst (Contains c.args.modifies.now) (sym here) (c.is_listed.ensures.0 w.if-not-is_listed.false)))
      ]
]

pub returns : goal.returns
returns c = (
  λ _ symbol unlisted. elim (cases_lt symbol c.loop-symbol.symbol) [
    | inl before ↦ c.loop-symbol.invariant symbol before unlisted
    | inr past ↦
        slice_get_past c.args.before.now symbol (omega (arith, past, c.loop-symbol-test.false)) ∙ sym (slice_get_past c.args.after.now symbol (omega (arith, past, c.loop-symbol-test.false, c.requires)))
  ],
  λ _. refl,
)
