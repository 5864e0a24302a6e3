use Rattle.std.proofs.Common.{◌++◌, ◌∷◌, [], List, ℕ, sym, ap, ◌∙◌, append_assoc}
use Rattle.sw_logic.specs.declared.syntax.Binder.{Binder}
use Rattle.sw_template.proofs.Made.{binders_to, binders_more}
use Rattle.sw_template.proofs.formulas.push_binders.Goals as goal

pub loop-n-preserved : goal.loop-n-preserved
loop-n-preserved c =
    let old = c.args.binders.now in
    let before = c.args.before in
    let sort = c.args.run.now.sort in
    let named : List ℕ → List Binder = λ name. record { name = name; sort = sort } ∷ [] in
    c.in_ok-push.ensures.ok
    ∙ (ap (λ (bs : List Binder). bs ++ named c.in_ok-variable_name.field-0) c.loop-n.invariant
    ∙ (append_assoc old (binders_to before sort c.loop-n.n) (named c.in_ok-variable_name.field-0)
    ∙ ap (λ (bs : List Binder). old ++ bs) (ap (λ (name : List ℕ). binders_to before sort c.loop-n.n ++ named name) c.in_ok-variable_name.ensures ∙ sym (binders_more before sort c.loop-n.n))))
