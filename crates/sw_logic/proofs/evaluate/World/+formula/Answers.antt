use Rattle.std.proofs.Common.{◌≡◌, ap, sym, ◌∙◌, arith}
use Rattle.std.specs.List.{list_all, list_any}
use Rattle.sw_logic.specs.Truth.{world, truth}
use Rattle.sw_logic.proofs.Quantifiers.{for_all-false, exists-true, binds-part}
use denote.Param.Weighed.{at_most}
use Rattle.sw_logic.proofs.syntax.Formula.TheLaws.{the_size}
use Rattle.sw_logic.proofs.Steps.{truth-All, truth-Any}
use Rattle.sw_logic.proofs.evaluate.World.+formula.Goals as goal

pub all-truth-requires : goal.all-truth-requires
all-truth-requires t c =
    let binds = binds-part c.args.parts.now c.loop-part.part-index c.part-item.result c.loop-part-test.true c.part-item.is in
    let deep = rw (← c.part-item.is) at (at_most the_size c.args.parts.now c.loop-part.part-index c.part-item.result c.loop-part-test.true) in
    (omega (arith, deep, c.decreases), omega (arith, binds, c.requires))

pub any-truth-requires : goal.any-truth-requires
any-truth-requires t c =
    let binds = binds-part c.args.parts.now c.loop-part.part-index c.part-item.result c.loop-part-test.true c.part-item.is in
    let deep = rw (← c.part-item.is) at (at_most the_size c.args.parts.now c.loop-part.part-index c.part-item.result c.loop-part-test.true) in
    (omega (arith, deep, c.decreases), omega (arith, binds, c.requires))

pub for_all-returns-then-not-for_all : goal.for_all-returns-then-not-for_all
for_all-returns-then-not-for_all t c =
    let w = world c.args.self.now.signature.now c.args.self.now.before.now c.args.self.now.after.now in
    let part = truth w c.args.part.now in
    let sizes = c.args.self.now.before.now.sizes in
    sym (for_all-false sizes c.args.binders.now part c.args.env.now c.binder-item.result c.loop-value.value c.size-value-end.result c.in-len1-up.len_at_least c.binder-item.is
    c.size-value-end.ensures c.loop-value-test.true (rw c.with.ensures at (sym c.if-not-for_all.ensures)))

pub exists-returns-then-exists : goal.exists-returns-then-exists
exists-returns-then-exists t c =
    let w = world c.args.self.now.signature.now c.args.self.now.before.now c.args.self.now.after.now in
    let part = truth w c.args.part.now in
    let sizes = c.args.self.now.before.now.sizes in
    sym (exists-true sizes c.args.binders.now part c.args.env.now c.binder-item.result c.loop-value.value c.size-value-end.result c.in-len1-up.len_at_least c.binder-item.is
    c.size-value-end.ensures c.loop-value-test.true (rw c.with.ensures at (sym c.if-exists.ensures)))

pub truth-returns-in-All : goal.truth-returns-in-All
truth-returns-in-All t c =
    let w = world c.args.self.now.signature.now c.args.self.now.before.now c.args.self.now.after.now in
    let env = c.args.env.now in
    let all : c.all.result ≡ list_all (λ p. truth w p env) c.as_slice-in-All.result.now = c.all.ensures in
    all ∙ ap (list_all (λ p. truth w p env)) c.as_slice-in-All.ensures ∙ sym (truth-All w c.in-All.parts env) ∙ ap (λ f. truth w f env) (sym c.in-All.is)

pub truth-returns-in-Any : goal.truth-returns-in-Any
truth-returns-in-Any t c =
    let w = world c.args.self.now.signature.now c.args.self.now.before.now c.args.self.now.after.now in
    let env = c.args.env.now in
    let any : c.any.result ≡ list_any (λ p. truth w p env) c.as_slice-in-Any.result.now = c.any.ensures in
    any ∙ ap (list_any (λ p. truth w p env)) c.as_slice-in-Any.ensures ∙ sym (truth-Any w c.in-Any.parts env) ∙ ap (λ f. truth w f env) (sym c.in-Any.is)
