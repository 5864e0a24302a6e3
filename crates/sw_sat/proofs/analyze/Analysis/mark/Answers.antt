use Rattle.std.proofs.Common.{◌≡◌, ◌<◌, ◌∙◌, arith, ap, length, take, subst, get_or}
use Rattle.std.proofs.lemmas.List.{take_all, length-set}
use Rattle.std.specs.List.{All}
use Rattle.sw_refute.specs.declared.clauses.Lit.{Lit}
use Rattle.sw_refute.specs.Satisfaction.{negation}
use Rattle.sw_sat.specs.Analysis.{IsSeen}
use Rattle.sw_sat.proofs.SeenLiterals.{seen_set, marks_more}
use Rattle.sw_sat.proofs.analyze.Analysis.mark.Goals as goal

pub loop-lit-preserved : goal.loop-lit-preserved
loop-lit-preserved c =
    let seen = c.loop-lit.self.seen.items in
    let lits = c.args.clause.now.lits in
    let items = c.as_slice-lit-items.result.now in
    let z : Lit = record { 0 = 0 } in
    let same : items ≡ lits = c.as_slice-lit-items.ensures in
    let k : c.loop-lit.lit-index < length lits = omega (arith, ap length same) in
    let n : c.negation-number.result.0 ≡ (negation (get_or items c.loop-lit.lit-index z)).0 = ap (λ (l : Lit). l.0) c.negation-number.ensures in
    let m : c.negation-number.result.0 ≡ (negation (get_or lits c.loop-lit.lit-index z)).0 = subst (λ ls. c.negation-number.result.0 ≡ (negation (get_or ls c.loop-lit.lit-index z)).0) same n in
    let within : c.negation-number.result.0 < length seen = omega (arith, c.requires c.loop-lit.lit-index z k) in
    record {
      size = length-set seen c.negation-number.result.0 _ ∙ c.loop-lit.invariant.size;
      hints = c.loop-lit.invariant.hints;
      keeps = λ l h. seen_set seen c.negation-number.result.0 within l (c.loop-lit.invariant.keeps l h);
      marks = marks_more seen items lits c.loop-lit.lit-index c.negation-number.result.0 z same c.loop-lit-test.true n within c.loop-lit.invariant.marks;
    }

pub returns-clause-marks : goal.returns-clause-marks
returns-clause-marks c =
    let lits = c.args.clause.now.lits in
    let all : take c.loop-lit.lit-index lits ≡ lits = take_all c.loop-lit.lit-index lits (omega (arith, ap length c.as_slice-lit-items.ensures)) in
    subst (All (λ l. IsSeen c.loop-lit.self.seen.items (negation l))) all c.loop-lit.invariant.marks
