use Rattle.std.proofs.Common.{◌≡◌, List, take, sym, ◌∙◌, subst}
use Rattle.std.proofs.lemmas.List.{take_more, take_all}
use Rattle.sw_refute.specs.declared.clauses.Lit.{Lit}
use Rattle.sw_refute.specs.Trail.{IsStatus}
use Rattle.sw_refute.proofs.trail.Trail.status.Goals as goal

pub loop-lit-preserved : goal.loop-lit-preserved
loop-lit-preserved c =
    let lits = c.as_slice-lit-items.result.now in
    let i = c.loop-lit.lit-index in
    let zero : Lit = record { 0 = 0 } in
    subst (λ (ls : List Lit). IsStatus c.args.self.now.lits.items (record { lits = ls }) c.with_literal-status.result) (sym (take_more lits i zero c.loop-lit-test.true))
    (c.with_literal-status.ensures (take i lits) c.loop-lit.invariant)

pub returns : goal.returns
returns c =
    let lits = c.as_slice-lit-items.result.now in
    let whole : take c.loop-lit.lit-index lits ≡ c.args.clause.now.lits = take_all c.loop-lit.lit-index lits c.loop-lit-test.false ∙ c.as_slice-lit-items.ensures in
    subst (λ (ls : List Lit). IsStatus c.args.self.now.lits.items (record { lits = ls }) c.loop-lit.status) whole c.loop-lit.invariant
