use Rattle.std.proofs.Common.{sym, subst, List, ℕ}
use Rattle.sw_truth.specs.declared.instances.Instance.TheVariants.{Of, Reflexive, Symmetric, Transitive, Congruent}
use Rattle.sw_ground.specs.Building.{EmitsTop}
use Rattle.sw_ground.proofs.Joining.{on_ok_map}
use Rattle.sw_ground.proofs.Adding.{piece_emits, emits_as}
use Rattle.sw_ground.proofs.clauses.add.Goals as goal

pub returns-in-Some : goal.returns-in-Some
returns-in-Some c =
    let ts = c.args.terms.now in
    let b0 = c.args.builder.now in
    let b1 = c.top.new.self in
    let p = c.in-Some.named.now in
    on_ok_map _ _ c.top.result
    (λ h. emits_as ts.signature.now ts.counts ts.firsts b0 b1 c.args.set.now (Of c.in-Of.piece c.in-Of.numbers) c.args.instance.now c.in-Of.is
    (piece_emits ts.signature.now ts.counts ts.firsts b0 b1 c.args.set.now c.in-Of.piece p c.in-Of.numbers (sym c.in-Some.ensures.value)
    (subst (λ (x : List ℕ). EmitsTop ts.signature.now ts.counts ts.firsts x c.in-Of.numbers b0.numbering.table b0.numbering.atoms b0.clauses b1.numbering.table b1.numbering.atoms b1.clauses p.matrix) c.as_slice.ensures
    (subst (λ (x : List ℕ). EmitsTop ts.signature.now ts.counts ts.firsts c.as_slice.result.now x b0.numbering.table b0.numbering.atoms b0.clauses b1.numbering.table b1.numbering.atoms b1.clauses p.matrix) c.as_slice-in-Of.ensures h))))
    c.top.ensures

pub returns-in-Reflexive : goal.returns-in-Reflexive
returns-in-Reflexive c =
    let ts = c.args.terms.now in
    on_ok_map _ _ c.reflexive.result
    (λ h. emits_as ts.signature.now ts.counts ts.firsts c.args.builder.now c.reflexive.new.builder c.args.set.now (Reflexive c.in-Reflexive.sort c.in-Reflexive.t) c.args.instance.now c.in-Reflexive.is (h c.args.set.now))
    c.reflexive.ensures

pub returns-in-Symmetric : goal.returns-in-Symmetric
returns-in-Symmetric c =
    let ts = c.args.terms.now in
    let i = c.in-Symmetric in
    on_ok_map _ _ c.symmetric.result
    (λ h. emits_as ts.signature.now ts.counts ts.firsts c.args.builder.now c.symmetric.new.builder c.args.set.now (Symmetric i.sort i.t i.u) c.args.instance.now i.is (h c.args.set.now))
    c.symmetric.ensures

pub returns-in-Transitive : goal.returns-in-Transitive
returns-in-Transitive c =
    let ts = c.args.terms.now in
    let i = c.in-Transitive in
    on_ok_map _ _ c.transitive.result
    (λ h. emits_as ts.signature.now ts.counts ts.firsts c.args.builder.now c.transitive.new.builder c.args.set.now (Transitive i.sort i.t i.u i.v) c.args.instance.now i.is (h c.args.set.now))
    c.transitive.ensures

pub returns-in-Congruent : goal.returns-in-Congruent
returns-in-Congruent c =
    let ts = c.args.terms.now in
    let i = c.in-Congruent in
    on_ok_map _ _ c.congruent.result
    (λ h. emits_as ts.signature.now ts.counts ts.firsts c.args.builder.now c.congruent.new.builder c.args.set.now (Congruent i.symbol i.place i.numbers i.u) c.args.instance.now i.is (h c.args.set.now))
    c.congruent.ensures
