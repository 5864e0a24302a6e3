-- The assignment of a trail on which every variable is assigned.
use Rattle.std.specs.Prelude.{◌≡◌, ◌+◌, ◌%◌, ◌<◌, ◌↔◌, ℕ, Bool, true, false, not, List, [], ◌∷◌, ◌++◌, length, IsTrue, Contains}
use Rattle.std.proofs.Common.{sym, ap, ◌∙◌, subst, ⊎_elim, get_or, arith}
use Rattle.std.proofs.lemmas.Bool.{cases_eq, cond-true, cond-false, eq-eqb, ne_eqb, false_from_ne_true}
use Rattle.std.proofs.lemmas.List.{length_push, get_or_append_left, get_or_push}
use Rattle.std.proofs.lemmas.List.Elements.{All-contains}
use Rattle.sw_refute.specs.declared.clauses.Clause.{Clause}
use Rattle.sw_refute.specs.declared.clauses.Cnf.{Cnf}
use Rattle.sw_refute.specs.declared.clauses.Derived.{Derived}
use Rattle.sw_refute.specs.declared.clauses.Lit.{Lit}
use Rattle.sw_refute.specs.Satisfaction.{variable, negation, is_positive, lit_holds, clause_holds, IsOver, IsWellFormed}
use Rattle.sw_refute.specs.Propagation.{clauses_of}
use Rattle.sw_sat.specs.declared.trail.Entry.{Entry}
use Rattle.sw_sat.specs.Answers.{assignment_of, IsModel}
use Rattle.sw_sat.specs.Progress.{IsTotal, IsValuation}
use Rattle.sw_sat.specs.Trail.{literals, IsUnassigned, IsTrueClause, IsOpenClause, IsFixpoint, IsTrail, positive, negative}
use Rattle.sw_sat.proofs.Founded.{consistent, over_at}
use Rattle.sw_sat.proofs.Negation.{same_variable, negation_cases}
use Rattle.sw_refute.proofs.Literals.{same_literal, negation_twice}
use Rattle.sw_lists.proofs.Members.{contains_get}
use Rattle.sw_lists.proofs.Tests.{all_from, any_true}
use Rattle.sw_lists.proofs.Places.{get_append_left}

pub valuation_more : (old new : List Bool) (known : List Lit) (n : ℕ) (b : Bool) → IsValuation old known n → IsTrue b ↔ Contains known (positive n) → new ≡ old ++ b ∷ [] → IsValuation new known (n + 1)
valuation_more old new known n b a is e = record {
  size = ap length e ∙ length_push old b ∙ ap (λ k. k + 1) a.size;
  each = λ v h. subst (λ vs. (get_or vs v false ≡ true) ↔ Contains known (positive v)) (sym e) (⊎_elim
      (λ (i : v ≡ n). subst (λ (k : ℕ). (get_or (old ++ b ∷ []) k false ≡ true) ↔ Contains known (positive k)) (sym i)
      (subst (λ (c : Bool). (c ≡ true) ↔ Contains known (positive n)) (sym (get_or_push old b false n a.size)) is))
      (λ (d : v ≡ n → ⊥). let k : v < n = omega arith in
      subst (λ (c : Bool). (c ≡ true) ↔ Contains known (positive v)) (sym (get_or_append_left old (b ∷ []) false v (subst (λ m. v < m) (sym a.size) k))) (a.each v k))
      (cases_eq v n));
}

-- a literal whose variable is assigned is not unassigned
assigned : (known : List Lit) (a b : Lit) → variable a ≡ variable b → Contains known b → IsUnassigned known a → ⊥
assigned known a b e c u = ⊎_elim (λ (i : a ≡ b). u.0 (subst (Contains known) (sym i) c))
    (λ (i : a ≡ negation b). u.1 (subst (Contains known) (sym (ap negation i ∙ negation_twice b)) c)) (same_variable a b e)

module _ (cnf : Cnf) (clauses : List Clause) (entries : List Entry) (values : List Bool) (trail : IsTrail cnf.variables clauses entries) (total : IsTotal cnf.variables entries)
    (valuation : IsValuation values (literals entries) cnf.variables) where
  lit_true : (l : Lit) → variable l < cnf.variables → Contains (literals entries) l → lit_holds (assignment_of values) l ≡ true
  lit_true l h c = ⊎_elim even odd (negation_cases l)
    where
      even : (l.0 % 2 ≡ 0) × ((negation l).0 ≡ l.0 + 1) → lit_holds (assignment_of values) l ≡ true
      even e =
          let i : l ≡ positive (variable l) = same_literal l (positive (variable l)) (omega (arith, e.0)) in
          cond-true (is_positive l) (get_or values (variable l) false) (not (get_or values (variable l) false)) (eq-eqb (l.0 % 2) 0 e.0)
          ∙ (valuation.each (variable l) h).1 (subst (Contains (literals entries)) i c)

      odd : (l.0 % 2 ≡ 1) × ((negation l).0 + 1 ≡ l.0) → lit_holds (assignment_of values) l ≡ true
      odd o =
          let i : positive (variable l) ≡ negation l = same_literal (positive (variable l)) (negation l) (omega (arith, o.0, o.1)) in
          let f : get_or values (variable l) false ≡ false = false_from_ne_true _ (λ t. consistent cnf.variables clauses entries trail l c
          (subst (Contains (literals entries)) i ((valuation.each (variable l) h).0 t))) in
          cond-false (is_positive l) (get_or values (variable l) false) (not (get_or values (variable l) false)) (ne_eqb (l.0 % 2) 0 (λ z. omega (arith, o.0, z)))
          ∙ ap not f

  pub is_model : (steps : List Derived) → IsWellFormed cnf → IsFixpoint (cnf.clauses ++ clauses_of steps) (literals entries) → IsModel cnf values
  is_model steps well fixpoint = record {
    total = valuation.size;
    holds = all_from (clause_holds (assignment_of values)) cnf.clauses (λ c a. let g = contains_get cnf.clauses c a in
        ⊎_elim (is_true c (over_at cnf.variables cnf.clauses g.0 c well g.1)) (λ o. absurd (is_open c (over_at cnf.variables cnf.clauses g.0 c well g.1) o))
        (fixpoint g.0 c (get_append_left cnf.clauses (clauses_of steps) g.0 c g.1)));
  }
    where
      is_true : (c : Clause) → IsOver cnf.variables c → IsTrueClause (literals entries) c → clause_holds (assignment_of values) c ≡ true
      is_true c over t = any_true (lit_holds (assignment_of values)) c.lits t.lit t.among (lit_true t.lit (All-contains (λ (m : Lit). variable m < cnf.variables) c.lits t.lit over t.among) t.holds)

      is_open : (c : Clause) → IsOver cnf.variables c → IsOpenClause (literals entries) c → ⊥
      is_open c over o =
          let h : variable o.first < cnf.variables = All-contains (λ (m : Lit). variable m < cnf.variables) c.lits o.first over o.among.0 in
          ⊎_elim (λ p. assigned (literals entries) o.first (positive (variable o.first)) (omega arith) p o.unassigned.0)
          (λ n. assigned (literals entries) o.first (negative (variable o.first)) (omega arith) n o.unassigned.0) (total (variable o.first) h)
