use Rattle.std.proofs.Common.{◌≡◌, ◌↔◌, IsTrue, Bool, true, false, not, map, take, get_or, Contains, sym, ap, ◌∙◌, subst}
use Rattle.std.specs.List.{list_any}
use Rattle.std.proofs.lemmas.Bool.{false≢true, not-true, or_from, not_from_false, false_from_ne_true}
use Rattle.sw_refute.specs.declared.clauses.Lit.{Lit}
use Rattle.sw_refute.specs.declared.clauses.Clause.{Clause}
use Rattle.sw_refute.specs.declared.trail.Trail.{Trail}
use Rattle.sw_refute.specs.Satisfaction.{negation}
use Rattle.sw_refute.specs.Propagation.{IsConsistent}
use Rattle.sw_refute.specs.Trail.{IsTrail}
use Rattle.sw_refute.proofs.Literals.{negation_twice}
use Rattle.sw_lists.proofs.Members.{contains_map, contains_unmap}
use Rattle.sw_lists.proofs.Tests.{some_true, any_true}
use Rattle.std.proofs.lemmas.List.{take_all}
use Rattle.std.proofs.lemmas.List.Folds.{list_any_more, list_any_at}
use Rattle.sw_refute.proofs.check.is_consistent.Goals as goal

-- where the negations of a clause's literals are true, it is consistent exactly where none of its literals is
consistent : (trail : Trail) (c : Clause) (b : Bool) → IsTrail trail → trail.lits.items ≡ map negation c.lits → b ≡ list_any (λ (l : Lit). get_or trail.truth.items l.0 false) c.lits → IsTrue (not b) ↔ IsConsistent c
consistent trail c b t negated e =
    let table : Lit → Bool = λ l. get_or trail.truth.items l.0 false in (
      λ f l h g.
          let among : Contains (map negation c.lits) l = subst (Contains (map negation c.lits)) (negation_twice l) (contains_map negation c.lits (negation l) g) in
          let true_here : table l ≡ true = (t.entries l).1 (subst (λ ls. Contains ls l) (sym negated) among) in
          false≢true (sym (not-true b f) ∙ (e ∙ any_true table c.lits l h true_here)),
      λ consistent. not_from_false b (false_from_ne_true b (λ f.
          let p = some_true table c.lits (sym e ∙ f) in
          let s = contains_unmap negation c.lits p.0 (subst (λ ls. Contains ls p.0) negated ((t.entries p.0).0 p.2)) in
          consistent s.0 s.1 (subst (Contains c.lits) (sym s.2) p.1))),
    )

pub returns-then-is_true : goal.returns-then-is_true
returns-then-is_true c =
    let table : Lit → Bool = λ l. get_or c.args.trail.now.truth.items l.0 false in
    let some : list_any table c.args.clause.now.lits ≡ true =
    ap (list_any table) (sym c.as_slice-lit-items.ensures)
    ∙ list_any_at table c.as_slice-lit-items.result.now c.loop-lit.lit-index (record { 0 = 0 }) c.loop-lit-test.true (sym c.is_true.ensures ∙ c.if-is_true.true) in
    consistent c.args.trail.now c.args.clause.now true c.requires.trail c.requires.negated (sym some)

pub loop-lit-preserved : goal.loop-lit-preserved
loop-lit-preserved c =
    let table : Lit → Bool = λ l. get_or c.args.trail.now.truth.items l.0 false in
    let lits = c.as_slice-lit-items.result.now in
    let i = c.loop-lit.lit-index in
    let zero : Lit = record { 0 = 0 } in
    list_any_more table lits i zero c.loop-lit-test.true ∙ or_from (list_any table (take i lits)) (table (get_or lits i zero)) c.loop-lit.invariant (sym c.is_true.ensures ∙ c.if-is_true.false)

pub returns : goal.returns
returns c =
    let table : Lit → Bool = λ l. get_or c.args.trail.now.truth.items l.0 false in
    let lits = c.as_slice-lit-items.result.now in
    let none : list_any table c.args.clause.now.lits ≡ false =
    ap (list_any table) (sym (take_all c.loop-lit.lit-index lits c.loop-lit-test.false ∙ c.as_slice-lit-items.ensures)) ∙ c.loop-lit.invariant in
    consistent c.args.trail.now c.args.clause.now false c.requires.trail c.requires.negated (sym none)
