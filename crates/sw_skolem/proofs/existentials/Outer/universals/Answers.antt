use Rattle.std.proofs.Common.{◌∙◌, ◌++◌, ◌∷◌, [], sym, ap, List, ℕ}
use Rattle.sw_skolem.proofs.PartOccurs.{universals_yes, universals_no}
use Rattle.sw_skolem.proofs.existentials.Outer.universals.Goals as goal
use Rattle.sw_skolem.proofs.existentials.Outer.universals.Goals.{then-branch+in_ok-push, else-branch}

pub loop-universal-preserved : goal.loop-universal-preserved
loop-universal-preserved c =
    let k = c.loop-universal.universal in
    let terms = c.args.self.now.terms in
    let f = c.args.formula.now in
    elim c.if-branch.branch [
      | then-branch+in_ok-push w ↦
          w.universals-is ∙ (w.in_ok-push.ensures.ok ∙ (ap (λ (us : List ℕ). us ++ k ∷ []) c.loop-universal.invariant
          ∙ sym (universals_yes terms f k (sym (c.in_ok-is_read.ensures {u = tt}) ∙ w.if-branch.true))))
      | else-branch w ↦ w.universals-is ∙ (c.loop-universal.invariant ∙ sym (universals_no terms f k (sym (c.in_ok-is_read.ensures {u = tt}) ∙ w.if-branch.false)))
    ]
