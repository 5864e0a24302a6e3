use Rattle.std.proofs.Common.{◌≡◌, IsTrue, Bool, true, false, not, sym, subst, refl}
use Rattle.sw_logic.specs.declared.syntax.Formula.{Formula}
use Rattle.sw_filter.specs.declared.filter.Filter.{Filter}
use Rattle.sw_filter.specs.Filters.{Refutes}
use Rattle.sw_filter.proofs.filter.Filter.refutes.Goals as goal

false_true : {P : Type 0} → false ≡ true → P
false_true e = cc

not_true : (b : Bool) → IsTrue (not b) → IsTrue b → ⊥
not_true true h k = false_true h
not_true false h k = false_true k

not_of : (b : Bool) → (IsTrue b → ⊥) → IsTrue (not b)
not_of true h = absurd (h refl)
not_of false h = refl

pub returns-then-holds_body : goal.returns-then-holds_body
returns-then-holds_body g c =
    let p = c.args.protocol.now in
    let f : Formula = g.B.Candidates.formula_of c.args.space.now c.args.body.now in
    let b : Bool = c.holds_body-then-holds_body.result in
    let before = c.holds_body-in-Move.ensures.0 c.if-holds_body.true in (
      λ h. subst (λ (x : Filter). Refutes p x f) (sym c.in-Move.is) (before, λ after. not_true b h (c.holds_body-then-holds_body.ensures.1 after)),
      λ r. let both = subst (λ (x : Filter). Refutes p x f) c.in-Move.is r in not_of b (λ h. both.1 (c.holds_body-then-holds_body.ensures.0 h)),
    )

pub returns-in-Bad : goal.returns-in-Bad
returns-in-Bad g c =
    let p = c.args.protocol.now in
    let f : Formula = g.B.Candidates.formula_of c.args.space.now c.args.body.now in (
      λ h. subst (λ (x : Filter). Refutes p x f) (sym c.in-Bad.is) (c.holds_body-in-Bad.ensures.0 h),
      λ r. c.holds_body-in-Bad.ensures.1 (subst (λ (x : Filter). Refutes p x f) c.in-Bad.is r),
    )
