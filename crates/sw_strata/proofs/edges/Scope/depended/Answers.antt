use Rattle.std.proofs.Common.{◌≡◌, ◌∙◌, ◌<◌, ◌++◌, get_or, sym, ap, arith, length, true, false, List, [], ℕ}
use Rattle.std.proofs.lemmas.Grind.{common_steps}
use Rattle.sw_logic.specs.Terms.{occurs}
use Rattle.sw_strata.proofs.EdgeSteps.{depended_yes, depended_no}
use Rattle.sw_strata.proofs.edges.Scope.depended.Goals as goal
use Rattle.sw_strata.proofs.edges.Scope.depended.Goals.{then-occurs+in_ok-from_slice+in_ok-append, else-occurs}

pub loop-variable-preserved : goal.loop-variable-preserved
loop-variable-preserved c =
    let i = c.loop-variable.variable in
    let items = c.as_slice-list-items.result.now in
    let f = c.args.formula.now in
    let within : i < length items = omega arith in
    let v : c.in-Ok.variable ≡ i = first_of (omega arith, cc, grind (arith, common_steps)) in
    elim c.if-occurs.branch [
      | then-occurs+in_ok-from_slice+in_ok-append w ↦
          let here : occurs i f ≡ true = ap (λ (x : ℕ). occurs x f) (sym v) ∙ (sym c.occurs.ensures ∙ w.if-occurs.true) in
          let x = c.list-item.result in
          let m = depended_yes items f i x within here in
          w.sorts-is ∙ (w.in_ok-append.ensures {u = tt} ∙ (ap (λ (xs : List ℕ). c.loop-variable.sorts ++ xs) (w.in_ok-from_slice.ensures {u = tt} ∙ (w.as_slice.ensures ∙ c.list-item.is))
          ∙ (ap (λ (xs : List ℕ). xs ++ get_or items i x) c.loop-variable.invariant ∙ sym m)))
      | else-occurs w ↦
          let here : occurs i f ≡ false = ap (λ (x : ℕ). occurs x f) (sym v) ∙ (sym c.occurs.ensures ∙ w.if-occurs.false) in
          let m = depended_no items f i [] within here in
          let old = c.loop-variable.invariant in
          cc
    ]
