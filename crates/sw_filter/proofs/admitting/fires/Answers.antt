use Rattle.std.proofs.Common.{ℕ, List, length, arith, sym, ap, ◌∙◌}
use Rattle.std.proofs.lemmas.Bool.{false≢true}
use Rattle.sw_logic.specs.declared.syntax.Binder.{Binder}
use Rattle.sw_filter.proofs.Frame.{values_count}
use Rattle.sw_filter.proofs.admitting.fires.Goals as goal

pub env_of-requires : goal.env_of-requires
env_of-requires c =
    let counted = values_count c.as_slice-sizes.result.now c.as_slice.result.now c.args.args.now (c.are_values.ensures.0 c.if-not-are_values.false) in
    omega (arith, counted, ap (λ (bs : List Binder). length bs) c.as_slice.ensures, c.requires.transition.few)

pub holds_pair-requires : goal.holds_pair-requires
holds_pair-requires c =
    let counted = values_count c.as_slice-sizes.result.now c.as_slice.result.now c.args.args.now (c.are_values.ensures.0 c.if-not-are_values.false) in
    omega (arith, counted, ap (λ (bs : List Binder). length bs) c.as_slice.ensures, ap (λ (vs : List ℕ). length vs) c.env_of.ensures, c.requires.transition.few)

pub returns-else-others_stay : goal.returns-else-others_stay
returns-else-others_stay c = (
  λ h. absurd (false≢true (sym c.if-others_stay.false ∙ h)),
  λ f. c.others_stay.ensures.1 (λ symbol unlisted.
      rw (c.as_slice-before.ensures, c.as_slice-after.ensures) (f.others symbol (λ among. unlisted (rw c.as_slice-2.ensures among)))),
)
