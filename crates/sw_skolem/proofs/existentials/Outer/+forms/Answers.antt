use Rattle.std.proofs.Common.{◌+◌, ◌∙◌, sym, subst, arith, inl, inr, List}
use Rattle.sw_logic.specs.declared.syntax.Formula.{Formula}
use Rattle.sw_skolem.proofs.FormSteps.{AreFormedTo, true_formed, false_formed, implies_formed, iff_formed, holds_formed, equal_formed, not_formed, all_formed, any_formed, for_all_formed, exists_formed, begins, goes_on, ends}
use Rattle.sw_skolem.proofs.existentials.Outer.+forms.Goals as goal

pub form-returns-in-True : goal.form-returns-in-True
form-returns-in-True t c =
    let s = c.args.self.now in
    true_formed s.base s.terms s.sorts c.args.made.now c.args.formula.now c.in-True.is

pub form-returns-in-False : goal.form-returns-in-False
form-returns-in-False t c =
    let s = c.args.self.now in
    false_formed s.base s.terms s.sorts c.args.made.now c.args.formula.now c.in-False.is

pub form-returns-in_ok-put_all-in-Holds : goal.form-returns-in_ok-put_all-in-Holds
form-returns-in_ok-put_all-in-Holds t c =
    let s = c.args.self.now in
    holds_formed s.base s.terms s.sorts c.args.made.now c.args.formula.now c.in-Holds.symbol c.in-Holds.post c.in-Holds.args c.as_slice.result.now c.in_ok-put_all-in-Holds.field-0
    c.in-Holds.is c.as_slice.ensures (c.in_ok-put_all-in-Holds.ensures {u = tt})

pub form-returns-in_ok-put-in-Equal-2 : goal.form-returns-in_ok-put-in-Equal-2
form-returns-in_ok-put-in-Equal-2 t c =
    let s = c.args.self.now in
    equal_formed s.base s.terms s.sorts c.args.made.now c.args.formula.now c.in-Equal.a c.in-Equal.b c.in_ok-put-in-Equal.field-0 c.in_ok-put-in-Equal-2.field-0
    c.in-Equal.is (c.in_ok-put-in-Equal.ensures {u = tt}) (c.in_ok-put-in-Equal-2.ensures {u = tt})

pub form-returns-in_ok-part-in-Not-2 : goal.form-returns-in_ok-part-in-Not-2
form-returns-in_ok-part-in-Not-2 t c =
    let s = c.args.self.now in
    not_formed s.base s.terms s.sorts c.args.made.now c.args.formula.now c.in-Not.part c.get.result.now c.in_ok-part-in-Not.part c.in_ok-part-in-Not-2.part c.form.new.made
    c.in-Not.is c.get.ensures (c.in_ok-part-in-Not.ensures {u = tt}) (c.in_ok-part-in-Not-2.ensures {u = tt})

pub form-returns-in_ok-forms-in-All : goal.form-returns-in_ok-forms-in-All
form-returns-in_ok-forms-in-All t c =
    let s = c.args.self.now in
    all_formed s.base s.terms s.sorts c.args.made.now c.args.formula.now c.in-All.parts c.as_slice-in-All.result.now c.in_ok-forms-in-All.field-0 c.forms.new.made
    c.in-All.is c.as_slice-in-All.ensures (c.in_ok-forms-in-All.ensures {u = tt})

pub form-returns-in_ok-forms-in-Any : goal.form-returns-in_ok-forms-in-Any
form-returns-in_ok-forms-in-Any t c =
    let s = c.args.self.now in
    any_formed s.base s.terms s.sorts c.args.made.now c.args.formula.now c.in-Any.parts c.as_slice-in-Any.result.now c.in_ok-forms-in-Any.field-0 c.forms-in-Any.new.made
    c.in-Any.is c.as_slice-in-Any.ensures (c.in_ok-forms-in-Any.ensures {u = tt})

pub form-returns-in_ok-part-in-ForAll-2 : goal.form-returns-in_ok-part-in-ForAll-2
form-returns-in_ok-part-in-ForAll-2 t c =
    let s = c.args.self.now in
    let inner = c.in_ok-inner-in-ForAll.inner in
    let below = c.in_ok-inner-in-ForAll.ensures {u = tt} in
    for_all_formed s.base s.terms s.sorts c.args.made.now c.args.formula.now c.in-ForAll.part c.get-in-ForAll.result.now c.in_ok-part-in-ForAll.part c.in_ok-part-in-ForAll-2.part
    c.in-ForAll.binders c.as_slice-in-ForAll.result.now c.in_ok-binders-in-ForAll.binders inner.base inner.terms inner.sorts c.form-in-ForAll.new.made
    c.in-ForAll.is c.get-in-ForAll.ensures c.as_slice-in-ForAll.ensures (c.in_ok-binders-in-ForAll.ensures {u = tt} ∙ c.as_slice-in-ForAll-2.ensures) below.0 below.1 below.2
    (c.in_ok-part-in-ForAll.ensures {u = tt}) (c.in_ok-part-in-ForAll-2.ensures {u = tt})

pub form-returns-in_ok-form-in-Exists : goal.form-returns-in_ok-form-in-Exists
form-returns-in_ok-form-in-Exists t c =
    let s = c.args.self.now in
    let inner = c.in_ok-inner-in-Exists.inner in
    let below = c.in_ok-inner-in-Exists.ensures {u = tt} in
    exists_formed s.base s.terms s.sorts c.args.made.now c.args.formula.now c.in-Exists.part c.get-in-Exists.result.now c.get-in-Exists-2.result.now c.in_ok-form-in-Exists.form
    c.in-Exists.binders c.as_slice-in-Exists.result.now inner.base inner.terms inner.sorts c.existential.new.made c.form-in-Exists.new.made
    c.in-Exists.is c.get-in-Exists.ensures c.get-in-Exists-2.ensures c.as_slice-in-Exists.ensures below.0 below.1 below.2 (c.in_ok-form-in-Exists.ensures {u = tt})

pub form-returns-in-Implies : goal.form-returns-in-Implies
form-returns-in-Implies t c =
    let s = c.args.self.now in
    elim c.in-Implies.is [
      | inl e ↦ implies_formed s.base s.terms s.sorts c.args.made.now c.args.formula.now e.0 e.1 e.2
      | inr e ↦ iff_formed s.base s.terms s.sorts c.args.made.now c.args.formula.now e.0 e.1 e.2
    ]

pub forms-loop-part-init : goal.forms-loop-part-init
forms-loop-part-init t c =
    let s = c.args.self.now in
    subst (λ (fs : List Formula). AreFormedTo s.base c.args.parts.now s.terms s.sorts c.args.made.now 0 fs c.args.made.now) (sym c.new-forms.ensures)
    (begins s.base c.args.parts.now s.terms s.sorts c.args.made.now)

pub forms-loop-part-preserved : goal.forms-loop-part-preserved
forms-loop-part-preserved t c =
    let s = c.args.self.now in
    let i = c.loop-part.part-index in
    subst (λ (fs : List Formula). AreFormedTo s.base c.args.parts.now s.terms s.sorts c.args.made.now (i + 1) fs c.form.new.made) (sym c.in_ok-push.ensures.ok)
    (goes_on s.base c.args.parts.now s.terms s.sorts c.args.made.now i c.loop-part.forms c.loop-part.made c.part-item.result c.in_ok-form.field-0 c.form.new.made
    (omega arith) c.part-item.is c.loop-part.invariant (c.in_ok-form.ensures {u = tt}))

pub forms-returns : goal.forms-returns
forms-returns t c =
    let s = c.args.self.now in
    ends s.base c.args.parts.now s.terms s.sorts c.args.made.now c.loop-part.part-index c.loop-part.forms c.loop-part.made (omega arith) c.loop-part.invariant
