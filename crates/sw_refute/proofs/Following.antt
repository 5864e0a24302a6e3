-- Accepted steps follow from the clauses.
use Rattle.std.specs.Prelude.{◌≡◌, ◌⊎◌, ℕ, true, false, List, [], ◌∷◌, ◌++◌, map, Contains}
use Rattle.std.specs.List.{list_any}
use Rattle.std.proofs.Common.{refl, arith, sym, ap, ◌∙◌, inl, inr}
use Rattle.std.proofs.lemmas.Bool.{false≢true, not-true, not_from_false, false_from_ne_true, cases_Bool, and_from, and_parts}
use Rattle.std.proofs.lemmas.List.Elements.{All-contains}
use Rattle.sw_refute.specs.declared.clauses.Lit.{Lit}
use Rattle.sw_refute.specs.declared.clauses.Clause.{Clause}
use Rattle.sw_refute.specs.declared.clauses.Derived.{Derived}
use Rattle.sw_refute.specs.Satisfaction.{Assignment, negation, lit_holds, clause_holds, all_hold, Follows, AreUnsatisfiable}
use Rattle.sw_refute.specs.Propagation.{IsFalse, IsConflicting, IsUnit, Propagates, conflict, unit, IsAccepted, AreAccepted, EndsEmpty, clauses_of}
use Rattle.sw_refute.proofs.Literals.{negation_holds}
use Rattle.sw_lists.proofs.Members.{contains_cons, contains_unmap, get_contains}
use Rattle.sw_lists.proofs.Tests.{some_true, any_true, true_of, all_push}

-- each of these literals is true
AreTrue : Assignment → List Lit → Type 0
AreTrue a known = (m : Lit) → Contains known m → lit_holds a m ≡ true

false_literal : (a : Assignment) (known : List Lit) (l : Lit) → AreTrue a known → IsFalse known l → lit_holds a l ≡ true → ⊥
unfolding AreTrue
false_literal a known l t f e = false≢true (sym (not-true (lit_holds a l) (sym (negation_holds a l) ∙ t (negation l) f)) ∙ e)

conflicting : (a : Assignment) (known : List Lit) (c : Clause) → AreTrue a known → IsConflicting known c → clause_holds a c ≡ true → ⊥
conflicting a known c t f e =
    let p = some_true (lit_holds a) c.lits e in
    false_literal a known p.0 t (All-contains (IsFalse known) c.lits p.0 f p.1) p.2

unit_is_true : (a : Assignment) (known : List Lit) (c : Clause) (l : Lit) → AreTrue a known → IsUnit known c l → clause_holds a c ≡ true → lit_holds a l ≡ true
unit_is_true a known c l t u e =
    let p = some_true (lit_holds a) c.lits e in
    elim (All-contains (λ m. (m ≡ l) ⊎ IsFalse known m) c.lits p.0 u.others p.1) [
      | inl same ↦ ap (lit_holds a) (sym same) ∙ p.2
      | inr f ↦ absurd (false_literal a known p.0 t f p.2)
    ]

one_more : (a : Assignment) (known : List Lit) (l : Lit) → AreTrue a known → lit_holds a l ≡ true → AreTrue a (l ∷ known)
unfolding AreTrue
one_more a known l t e m c = elim (contains_cons l known m c) [
  | inl same ↦ ap (lit_holds a) same ∙ e
  | inr d ↦ t m d
]

-- where the clauses are true, no literals that propagate to a conflict are
impossible : (a : Assignment) (clauses : List Clause) {known : List Lit} {hints : List ℕ} → Propagates clauses known hints → all_hold a clauses ≡ true → AreTrue a known → ⊥
impossible a clauses {known} (conflict hint c at f) e t = conflicting a known c t f (true_of (clause_holds a) clauses c e (get_contains clauses hint c at))
impossible a clauses {known} (unit hint c l at u p) e t =
    impossible a clauses p e (one_more a known l t (unit_is_true a known c l t u (true_of (clause_holds a) clauses c e (get_contains clauses hint c at))))

negations_true : (a : Assignment) (lits : List Lit) → list_any (lit_holds a) lits ≡ false → AreTrue a (map negation lits)
unfolding AreTrue
negations_true a lits e m c =
    let s = contains_unmap negation lits m c in
    let f : lit_holds a s.0 ≡ false = false_from_ne_true (lit_holds a s.0) (λ h. false≢true (sym e ∙ any_true (lit_holds a) lits s.0 s.1 h)) in
    ap (lit_holds a) (sym s.2) ∙ (negation_holds a s.0 ∙ not_from_false (lit_holds a s.0) f)

pub step_follows : (variables : ℕ) (clauses : List Clause) (s : Derived) → IsAccepted variables clauses s → Follows clauses s.clause
step_follows variables clauses s accepted a e = elim (cases_Bool (clause_holds a s.clause)) [
  | inl h ↦ h
  | inr f ↦ absurd (impossible a clauses accepted.propagates e (negations_true a s.clause.lits f))
]

pub steps_follow : (variables : ℕ) (clauses : List Clause) (steps : List Derived) → AreAccepted variables clauses steps → (a : Assignment) → all_hold a clauses ≡ true → all_hold a (clauses_of steps) ≡ true
steps_follow variables clauses [] accepted a e = refl
steps_follow variables clauses (s ∷ steps) accepted a e =
    let first : clause_holds a s.clause ≡ true = step_follows variables clauses s accepted.0 a e in
    and_from (clause_holds a s.clause) (all_hold a (clauses_of steps)) first
    (steps_follow variables (clauses ++ s.clause ∷ []) steps accepted.1 a (all_push (clause_holds a) clauses s.clause e first))

-- an empty clause is false
empty_fails : (a : Assignment) (lits : List Lit) → lits ≡ [] → list_any (lit_holds a) lits ≡ true → ⊥
empty_fails a lits e h = false≢true (sym (ap (list_any (lit_holds a)) e) ∙ h)

last_fails : (a : Assignment) (steps : List Derived) → EndsEmpty steps → all_hold a (clauses_of steps) ≡ true → ⊥
last_fails a [] empty e = empty
last_fails a (s ∷ []) empty e = empty_fails a s.clause.lits empty (true_of (clause_holds a) (s.clause ∷ []) s.clause e (0, omega arith, refl))
last_fails a (s ∷ t ∷ steps) empty e = last_fails a (t ∷ steps) empty (and_parts (clause_holds a s.clause) (all_hold a (clauses_of (t ∷ steps))) e).1

pub empty_refutes : (variables : ℕ) (clauses : List Clause) (steps : List Derived) → AreAccepted variables clauses steps → EndsEmpty steps → AreUnsatisfiable clauses
empty_refutes variables clauses steps accepted empty a e = last_fails a steps empty (steps_follow variables clauses steps accepted a e)
