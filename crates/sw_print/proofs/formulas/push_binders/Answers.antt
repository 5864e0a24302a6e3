use Rattle.std.proofs.Common.{ap, ◌∙◌, ◌++◌}
use Rattle.std.specs.Prelude.{string_bytes, codes}
use Rattle.sw_logic.specs.Canonical.{binder_text}
use Rattle.sw_print.proofs.Joined.{written}
use Rattle.sw_print.proofs.formulas.push_binders.Goals as goal

pub loop-i-preserved : goal.loop-i-preserved
loop-i-preserved c =
    let f = binder_text c.args.signature.now in
    written (codes ", ") f c.args.binders.now c.loop-i.i c.index-binders-i.result _ _ _ _ c.loop-i-test.true c.loop-i.invariant c.in_ok-push_between.ensures
    (c.in_ok-push_binder.ensures ∙ ap (λ b. string_bytes c.push_between.new.text ++ f b) c.index-binders-i.is)
