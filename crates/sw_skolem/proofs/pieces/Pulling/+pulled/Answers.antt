use Rattle.std.proofs.Common.{◌+◌, sym, subst, arith, inl, inr, List}
use Rattle.sw_logic.specs.declared.syntax.Formula.{Formula}
use Rattle.sw_skolem.proofs.PieceSteps.{ArePulledTo, true_pulled, false_pulled, implies_pulled, iff_pulled, exists_pulled, holds_pulled, equal_pulled, not_pulled, all_pulled, any_pulled, for_all_pulled, begins, goes_on, ends}
use Rattle.sw_skolem.proofs.pieces.Pulling.+pulled.Goals as goal

pub pulled-returns-in-True : goal.pulled-returns-in-True
pulled-returns-in-True t c =
    let s = c.args.self.now in
    true_pulled s.terms s.first c.args.vars.now c.args.formula.now c.in-True.is

pub pulled-returns-in-False : goal.pulled-returns-in-False
pulled-returns-in-False t c =
    let s = c.args.self.now in
    false_pulled s.terms s.first c.args.vars.now c.args.formula.now c.in-False.is

pub pulled-returns-in_ok-put_all-in-Holds : goal.pulled-returns-in_ok-put_all-in-Holds
pulled-returns-in_ok-put_all-in-Holds t c =
    let s = c.args.self.now in
    holds_pulled s.terms s.first c.args.vars.now c.args.formula.now c.in-Holds.symbol c.in-Holds.post c.in-Holds.args c.as_slice.result.now c.in_ok-put_all-in-Holds.field-0
    c.in-Holds.is c.as_slice.ensures (c.in_ok-put_all-in-Holds.ensures {u = tt})

pub pulled-returns-in_ok-put-in-Equal-2 : goal.pulled-returns-in_ok-put-in-Equal-2
pulled-returns-in_ok-put-in-Equal-2 t c =
    let s = c.args.self.now in
    equal_pulled s.terms s.first c.args.vars.now c.args.formula.now c.in-Equal.a c.in-Equal.b c.in_ok-put-in-Equal.field-0 c.in_ok-put-in-Equal-2.field-0
    c.in-Equal.is (c.in_ok-put-in-Equal.ensures {u = tt}) (c.in_ok-put-in-Equal-2.ensures {u = tt})

pub pulled-returns-in_ok-part-in-Not-2 : goal.pulled-returns-in_ok-part-in-Not-2
pulled-returns-in_ok-part-in-Not-2 t c =
    let s = c.args.self.now in
    not_pulled s.terms s.first c.args.vars.now c.args.formula.now c.in-Not.part c.get.result.now c.in_ok-part-in-Not.part c.in_ok-part-in-Not-2.part c.pulled.new.vars
    c.in-Not.is c.get.ensures (c.in_ok-part-in-Not.ensures {u = tt}) (c.in_ok-part-in-Not-2.ensures {u = tt})

pub pulled-returns-in_ok-pulled_all-in-All : goal.pulled-returns-in_ok-pulled_all-in-All
pulled-returns-in_ok-pulled_all-in-All t c =
    let s = c.args.self.now in
    all_pulled s.terms s.first c.args.vars.now c.args.formula.now c.in-All.parts c.as_slice-in-All.result.now c.in_ok-pulled_all-in-All.field-0 c.pulled_all.new.vars
    c.in-All.is c.as_slice-in-All.ensures (c.in_ok-pulled_all-in-All.ensures {u = tt})

pub pulled-returns-in_ok-pulled_all-in-Any : goal.pulled-returns-in_ok-pulled_all-in-Any
pulled-returns-in_ok-pulled_all-in-Any t c =
    let s = c.args.self.now in
    any_pulled s.terms s.first c.args.vars.now c.args.formula.now c.in-Any.parts c.as_slice-in-Any.result.now c.in_ok-pulled_all-in-Any.field-0 c.pulled_all-in-Any.new.vars
    c.in-Any.is c.as_slice-in-Any.ensures (c.in_ok-pulled_all-in-Any.ensures {u = tt})

pub pulled-returns-in_ok-part-in-ForAll : goal.pulled-returns-in_ok-part-in-ForAll
pulled-returns-in_ok-part-in-ForAll t c =
    let s = c.args.self.now in
    let inner = c.in_ok-inner-in-ForAll.inner in
    let below = c.in_ok-inner-in-ForAll.ensures {u = tt} in
    for_all_pulled s.terms s.first c.args.vars.now c.args.formula.now c.in-ForAll.part c.get-in-ForAll.result.now c.in_ok-part-in-ForAll.part
    c.in-ForAll.binders c.as_slice-in-ForAll.result.now inner.first inner.terms c.inner.new.vars c.pulled-in-ForAll.new.vars
    c.in-ForAll.is c.get-in-ForAll.ensures c.as_slice-in-ForAll.ensures below.0 below.1 below.2 (c.in_ok-part-in-ForAll.ensures {u = tt})

pub pulled-returns-in-Implies : goal.pulled-returns-in-Implies
pulled-returns-in-Implies t c =
    let s = c.args.self.now in
    elim c.in-Implies.is [
      | inl e ↦ implies_pulled s.terms s.first c.args.vars.now c.args.formula.now e.0 e.1 e.2
      | inr other ↦
          elim other [
            | inl e ↦ iff_pulled s.terms s.first c.args.vars.now c.args.formula.now e.0 e.1 e.2
            | inr e ↦ exists_pulled s.terms s.first c.args.vars.now c.args.formula.now e.1 e.0 e.2
          ]
    ]

pub pulled_all-loop-part-init : goal.pulled_all-loop-part-init
pulled_all-loop-part-init t c =
    let s = c.args.self.now in
    subst (λ (fs : List Formula). ArePulledTo c.args.parts.now s.terms s.first c.args.vars.now 0 fs c.args.vars.now) (sym c.new-formulas.ensures)
    (begins c.args.parts.now s.terms s.first c.args.vars.now)

pub pulled_all-loop-part-preserved : goal.pulled_all-loop-part-preserved
pulled_all-loop-part-preserved t c =
    let s = c.args.self.now in
    let i = c.loop-part.part-index in
    subst (λ (fs : List Formula). ArePulledTo c.args.parts.now s.terms s.first c.args.vars.now (i + 1) fs c.pulled.new.vars) (sym c.in_ok-push.ensures.ok)
    (goes_on c.args.parts.now s.terms s.first c.args.vars.now i c.loop-part.formulas c.loop-part.vars c.part-item.result c.in_ok-pulled.field-0 c.pulled.new.vars
    (omega arith) c.part-item.is c.loop-part.invariant (c.in_ok-pulled.ensures {u = tt}))

pub pulled_all-returns : goal.pulled_all-returns
pulled_all-returns t c =
    let s = c.args.self.now in
    ends c.args.parts.now s.terms s.first c.args.vars.now c.loop-part.part-index c.loop-part.formulas c.loop-part.vars (omega arith) c.loop-part.invariant
