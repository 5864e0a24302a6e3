use Rattle.std.proofs.Common.{◌≡◌, ◌+◌, ◌∷◌, ◌++◌, [], ap, subst, sym, take, ◌∙◌}
use Rattle.std.specs.List.{AllZip}
use Rattle.std.proofs.lemmas.List.{take_more}
use Rattle.sw_core.specs.declared.record.Settled.{Settled}
use Rattle.sw_gather.specs.Gathers.{IsMovedBy}
use Rattle.sw_gather.proofs.Chosen.{zip_push}
use Rattle.sw_gather.proofs.merging.merged_all.Goals as goal

pub loop-one-preserved : goal.loop-one-preserved
loop-one-preserved c =
    let i = c.loop-one.one-index in
    let xs = c.args.settled.now in
    let x : Settled = c.one-item.result in
    let one : take (i + 1) xs ≡ take i xs ++ x ∷ [] = take_more xs i x c.loop-one-test.true ∙ ap (λ (y : Settled). take i xs ++ y ∷ []) (sym c.one-item.is) in
    subst (λ l. AllZip (IsMovedBy c.args.before c.args.places.now) (take (i + 1) xs) l) (sym c.in_ok-push.ensures.ok)
    (subst (λ l. AllZip (IsMovedBy c.args.before c.args.places.now) l (c.loop-one.all ++ c.in_ok-merged.field-0 ∷ [])) (sym one)
    (zip_push (IsMovedBy c.args.before c.args.places.now) (take i xs) c.loop-one.all x c.in_ok-merged.field-0 c.loop-one.invariant c.in_ok-merged.ensures))
