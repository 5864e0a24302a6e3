use Rattle.std.proofs.Common.{◌∙◌, sym, ap, refl, arith, List, get_or, not}
use Rattle.sw_logic.specs.declared.syntax.Formula.{Formula}
use Rattle.sw_skolem.specs.Normal.{stays}
use Rattle.sw_skolem.proofs.Gathering.{kept_more, dropped_more, dropped_length, kept_all}
use Rattle.sw_skolem.proofs.absorbing.without.Goals as goal

pub loop-at-init : goal.loop-at-init
loop-at-init c = (refl, omega arith)

pub loop-at-preserved : goal.loop-at-preserved
loop-at-preserved c =
    let x = c.index-as_slice-at.result in
    let is = c.index-as_slice-at.is ∙ ap (λ (xs : List Formula). get_or xs c.loop-at.at x) c.as_slice.ensures in
    (kept_more (stays c.args.value) c.args.parts c.loop-at.parts c.loop-at.at x c.loop-at.invariant.0 (omega arith) is (ap not (sym c.is_constant.ensures ∙ c.if-is_constant.false)), omega arith)

pub loop-at-preserved-then-is_constant : goal.loop-at-preserved-then-is_constant
loop-at-preserved-then-is_constant c =
    let x = c.index-as_slice-at.result in
    let is = c.index-as_slice-at.is ∙ ap (λ (xs : List Formula). get_or xs c.loop-at.at x) c.as_slice.ensures in
    let kept = dropped_more (stays c.args.value) c.args.parts c.loop-at.parts c.loop-at.at x c.loop-at.invariant.0 (omega arith) is (ap not (sym c.is_constant.ensures ∙ c.if-is_constant.true)) in
    let long = dropped_length c.loop-at.parts c.loop-at.at (omega arith) in
    rw c.take_out.ensures (kept, long)

pub returns : goal.returns
returns c = kept_all (stays c.args.value) c.args.parts c.loop-at.parts c.loop-at.at c.loop-at.invariant.0 (omega arith)
