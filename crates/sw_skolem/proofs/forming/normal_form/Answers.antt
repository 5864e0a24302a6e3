use Rattle.std.proofs.Common.{◌≡◌, ◌∙◌, ap, subst, true, false, IfOk}
use Rattle.sw_logic.specs.declared.syntax.Formula.{Formula}
use Rattle.sw_skolem.specs.Normal.{nnf_of}
use Rattle.sw_skolem.specs.Absorbing.{absorbed}
use Rattle.sw_skolem.proofs.Absorption.{absorbs}
use Rattle.sw_skolem.proofs.forming.normal_form.Goals as goal

pub returns : goal.returns
returns c =
    let f = c.args.sentence.now in
    let whole : absorbed c.in_ok-plain.plain ≡ nnf_of f true = ap absorbed (c.in_ok-plain.ensures {u = tt}) ∙ absorbs f false in
    subst (λ (g : Formula). IfOk c.absorb.result (λ (x : Formula). x ≡ g)) whole c.absorb.ensures
