use Rattle.std.proofs.Common.{◌≡◌, Bool, true, false, sym, ap, ◌∙◌, subst, rules, get_or, Contains}
use Rattle.std.proofs.lemmas.Bool.{false≢true}
use Rattle.sw_refute.specs.declared.clauses.Lit.{Lit}
use Rattle.sw_refute.specs.declared.trail.Status.{Status}
use Rattle.sw_refute.specs.declared.trail.Status.TheVariants.{Conflicting, Unit as Single, Neither}
use Rattle.sw_refute.specs.Satisfaction.{negation}
use Rattle.sw_refute.specs.Propagation.{IsFalse}
use Rattle.sw_refute.specs.Trail.{IsTrail, Extends}
use Rattle.sw_refute.specs.declared.trail.Trail.{Trail}
use Rattle.sw_refute.proofs.Statuses.{false_more, true_more, first_open, same_more, other_more, neither_more}
use Rattle.sw_refute.proofs.trail.Trail.with_literal.Goals as goal

-- what the table says of the negation of a literal
is_false : (trail : Trail) (lit other : Lit) (b : Bool) → IsTrail trail → other ≡ negation lit → b ≡ get_or trail.truth.items other.0 false → b ≡ true → IsFalse trail.lits.items lit
is_false trail lit other b t e f g = (t.entries (negation lit)).0 (ap (λ (l : Lit). get_or trail.truth.items l.0 false) (sym e) ∙ (sym f ∙ g))

not_false : (trail : Trail) (lit other : Lit) (b : Bool) → IsTrail trail → other ≡ negation lit → b ≡ get_or trail.truth.items other.0 false → b ≡ false → IsFalse trail.lits.items lit → ⊥
not_false trail lit other b t e f g h = false≢true (sym (ap (λ (l : Lit). get_or trail.truth.items l.0 false) (sym e) ∙ (sym f ∙ g)) ∙ (t.entries (negation lit)).1 h)

not_true : (trail : Trail) (lit : Lit) (b : Bool) → IsTrail trail → b ≡ get_or trail.truth.items lit.0 false → b ≡ false → Contains trail.lits.items lit → ⊥
not_true trail lit b t f g h = false≢true (sym (sym f ∙ g) ∙ (t.entries lit).1 h)

from : (trail : Trail) (s s' : Status) (lit : Lit) (after : Status) → s ≡ s' → Extends trail.lits.items s' lit after → Extends trail.lits.items s lit after
from trail s s' lit after e x = subst (λ u. Extends trail.lits.items u lit after) (sym e) x

pub returns-then-is_true : goal.returns-then-is_true
returns-then-is_true c =
    let t = c.args.self.now in
    false_more t.lits.items c.args.status c.args.lit (is_false t c.args.lit c.negation.result c.is_true.result c.requires.trail c.negation.ensures c.is_true.ensures c.if-is_true.true)

pub returns-then-is_true-2 : goal.returns-then-is_true-2
returns-then-is_true-2 c =
    let t = c.args.self.now in
    true_more t.lits.items c.args.status c.args.lit (not_false t c.args.lit c.negation.result c.is_true.result c.requires.trail c.negation.ensures c.is_true.ensures c.if-is_true.false)
    ((c.requires.trail.entries c.args.lit).0 (sym c.is_true-2.ensures ∙ c.if-is_true-2.true))

pub returns-in-Conflicting : goal.returns-in-Conflicting
returns-in-Conflicting c =
    let t = c.args.self.now in
    from t c.args.status Conflicting c.args.lit (Single c.args.lit) c.in-Conflicting.is
    (first_open t.lits.items c.args.lit (not_false t c.args.lit c.negation.result c.is_true.result c.requires.trail c.negation.ensures c.is_true.ensures c.if-is_true.false)
    (not_true t c.args.lit c.is_true-2.result c.requires.trail c.is_true-2.ensures c.if-is_true-2.false))

pub returns-then-eq : goal.returns-then-eq
returns-then-eq c =
    let t = c.args.self.now in
    let same : c.in-Unit.other ≡ c.args.lit = search rules in
    from t c.args.status (Single c.in-Unit.other) c.args.lit (Single c.in-Unit.other) c.in-Unit.is (same_more t.lits.items c.in-Unit.other c.args.lit same)

pub returns-else-eq : goal.returns-else-eq
returns-else-eq c =
    let t = c.args.self.now in
    let ne : c.in-Unit.other ≡ c.args.lit → ⊥ = search rules in
    from t c.args.status (Single c.in-Unit.other) c.args.lit Neither c.in-Unit.is
    (other_more t.lits.items c.in-Unit.other c.args.lit (not_false t c.args.lit c.negation.result c.is_true.result c.requires.trail c.negation.ensures c.is_true.ensures c.if-is_true.false) ne)

pub returns-in-Neither : goal.returns-in-Neither
returns-in-Neither c =
    let t = c.args.self.now in
    from t c.args.status Neither c.args.lit Neither c.in-Neither.is (neither_more t.lits.items c.args.lit)
