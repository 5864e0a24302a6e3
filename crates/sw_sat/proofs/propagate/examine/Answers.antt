use Rattle.std.proofs.Common.{◌≡◌, ◌∙◌, sym, subst, take, get_or}
use Rattle.std.proofs.lemmas.Bool.{iff_false, not-true, not-false}
use Rattle.std.proofs.lemmas.List.{take_all}
use Rattle.std.specs.List.{Contains}
use Rattle.sw_refute.specs.declared.clauses.Lit.{Lit}
use Rattle.sw_sat.specs.Trail.{literals, IsUnassigned}
use Rattle.sw_sat.proofs.Examined.{StandsSoFar, goes_false, goes_same, goes_unit, is_open, stands_at_end}
use Rattle.sw_sat.proofs.propagate.examine.Goals as goal
use Rattle.sw_sat.proofs.propagate.examine.Goals.{then-not-is_true+in-Unit+else-ne, then-not-is_true+in_default, else-not-is_true}

pub returns-then-ne : goal.returns-then-ne
returns-then-ne c =
    let known = literals c.args.trail.now.entries.items in
    let z : Lit = record { 0 = 0 } in
    let x : Lit = get_or c.as_slice-lit-items.result.now c.loop-lit.lit-index z in
    let free : IsUnassigned known x = (iff_false c.is_true.ensures c.if-is_true.false, λ f. iff_false c.is_true-in-loop-lit.ensures c.if-not-is_true.true (subst (Contains known) (sym c.negation.ensures) f)) in
    is_open known c.as_slice-lit-items.result.now c.args.clause.now c.as_slice-lit-items.ensures c.loop-lit.lit-index z c.loop-lit-test.true c.loop-lit.standing c.in-Unit.first c.loop-lit.invariant c.in-Unit.is
    (not-true _ (sym c.ne.ensures ∙ c.if-ne.true)) free

pub loop-lit-preserved : goal.loop-lit-preserved
loop-lit-preserved c =
    let known = literals c.args.trail.now.entries.items in
    let z : Lit = record { 0 = 0 } in
    let items = c.as_slice-lit-items.result.now in
    let clause = c.args.clause.now in
    let same = c.as_slice-lit-items.ensures in
    let k = c.loop-lit.lit-index in
    let h = c.loop-lit-test.true in
    elim c.if-not-is_true.branch [
      | then-not-is_true+in-Unit+else-ne w ↦ goes_same known items clause same k z h c.loop-lit.standing c.if-not-is_true.standing w.in-Unit.first c.loop-lit.invariant w.in-Unit.is (not-false _ (sym w.ne.ensures ∙ w.if-ne.false)) w.standing-is
      | then-not-is_true+in_default w ↦ goes_unit known items clause same k z h c.loop-lit.standing c.if-not-is_true.standing c.loop-lit.invariant w.in_default.not-Unit
          (iff_false c.is_true.ensures c.if-is_true.false, λ f. iff_false c.is_true-in-loop-lit.ensures w.if-not-is_true.true (subst (Contains known) (sym c.negation.ensures) f)) w.standing-is
      | else-not-is_true w ↦ goes_false known items clause same k z h c.loop-lit.standing c.if-not-is_true.standing c.loop-lit.invariant
          (subst (Contains known) c.negation.ensures (c.is_true-in-loop-lit.ensures.0 w.if-not-is_true.false)) w.standing-is
    ]

pub returns : goal.returns
returns c =
    let all : take c.loop-lit.lit-index c.args.clause.now.lits ≡ c.args.clause.now.lits =
    subst (λ ls. take c.loop-lit.lit-index ls ≡ ls) c.as_slice-lit-items.ensures (take_all c.loop-lit.lit-index c.as_slice-lit-items.result.now c.loop-lit-test.false) in
    stands_at_end (literals c.args.trail.now.entries.items) c.args.clause.now c.loop-lit.standing
    (subst (λ ls. StandsSoFar (literals c.args.trail.now.entries.items) ls c.loop-lit.standing) all c.loop-lit.invariant)
