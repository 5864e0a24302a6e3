use Rattle.std.proofs.Common.{◌≡◌, ◌∙◌, Bool, IfOk, List, sym, subst, ap}
use Rattle.sw_core.specs.declared.record.Kept.{Kept}
use Rattle.sw_hand.specs.Hands.{Grows}
use Rattle.sw_hand.proofs.hand.Task.sift.Goals as goal

pub returns-then-branch-clause-good : goal.returns-then-branch-clause-good
returns-then-branch-clause-good g c = λ _. c.in_ok-sift_found.ensures.good c.if-branch.true

pub returns-clause-grows : goal.returns-clause-grows
returns-clause-grows g c =
    let old = c.args.hand.now in
    let mid = c.refresh.new.hand in
    let new = c.sift_found-2.new.hand in
    let stays = c.in_ok-sift_found.ensures.stays c.if-branch.false in
    let kept : mid.kept ≡ old.kept = c.in_ok-refresh.ensures.kept ∙ ap (λ h. h.kept) stays in
    let used : mid.used.items ≡ old.used.items = c.in_ok-refresh.ensures.used ∙ ap (λ h. h.used.items) stays in
    subst (λ (ks : List Kept). IfOk c.sift_found-2.result (λ x. Grows ks old.used.items new.kept new.used.items)) kept
    (subst (λ (us : List Bool). IfOk c.sift_found-2.result (λ x. Grows mid.kept us new.kept new.used.items)) used c.sift_found-2.ensures.grows)
