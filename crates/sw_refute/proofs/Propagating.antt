-- One hint after another: what the status of a hinted clause says of the hints from it on.
use Rattle.std.specs.Prelude.{◌≡◌, ◌⊎◌, ◌↔◌, ℕ, List, [], ◌∷◌, ◌++◌, Contains, Some, None, slice_get, ◌+◌, ◌<◌, ◌≤◌, length, drop, IsTrue, false}
use Rattle.std.proofs.Common.{refl, arith, eqb, get_or, sym, ap, ◌∙◌, subst, inl, inr}
use Rattle.std.proofs.lemmas.List.Elements.{All-contains, All-weaker, Contains-append_left, Contains-push, Contains-push_cases}
use Rattle.std.proofs.lemmas.Bool.{false≢true, eqb-true, eq-eqb}
use Rattle.std.proofs.lemmas.List.{drop_all, drop_more, length-drop}
use Rattle.std.proofs.lemmas.Option.{none-some, same_Some}
use Rattle.sw_refute.specs.declared.clauses.Lit.{Lit}
use Rattle.sw_refute.specs.declared.clauses.Clause.{Clause}
use Rattle.sw_refute.specs.Satisfaction.{negation}
use Rattle.sw_refute.specs.Propagation.{IsFalse, IsConflicting, IsUnit, Propagates, conflict, unit}
use Rattle.sw_lists.proofs.Members.{contains_head, contains_tail, contains_cons}

-- the one list has each literal of the other
Within : List Lit → List Lit → Type 0
Within known wider = (l : Lit) → Contains known l → Contains wider l

within_more : (known wider : List Lit) (x : Lit) → Within known wider → Within (x ∷ known) (x ∷ wider)
unfolding Within
within_more known wider x w l c = elim (contains_cons x known l c) [
  | inl e ↦ subst (Contains (x ∷ wider)) (sym e) (contains_head x wider)
  | inr d ↦ contains_tail x wider l (w l d)
]

conflicting_within : (known wider : List Lit) (c : Clause) → Within known wider → IsConflicting known c → IsConflicting wider c
unfolding Within
conflicting_within known wider c w f = All-weaker (IsFalse known) (IsFalse wider) (λ l. w (negation l)) c.lits f

unit_within : (known wider : List Lit) (c : Clause) (l : Lit) → Within known wider → Within wider known → IsUnit known c l → IsUnit wider c l
unfolding Within
unit_within known wider c l w v u = record {
  among = u.among;
  unassigned = (λ h. u.unassigned.0 (v l h), λ h. u.unassigned.1 (v (negation l) h));
  others = All-weaker (λ m. (m ≡ l) ⊎ IsFalse known m) (λ m. (m ≡ l) ⊎ IsFalse wider m)
      (λ m. λ h. elim h [ inl e ↦ inl e | inr f ↦ inr (w (negation m) f) ])
      c.lits u.others;
}

-- propagation looks at which literals are known, and not at their order
propagates_within : (clauses : List Clause) {known : List Lit} {hints : List ℕ} (wider : List Lit) → Propagates clauses known hints → Within known wider → Within wider known → Propagates clauses wider hints
propagates_within clauses {known} wider (conflict hint c at f) w v = conflict hint c at (conflicting_within known wider c w f)
propagates_within clauses {known} wider (unit hint c l at u p) w v =
    unit hint c l at (unit_within known wider c l w v u) (propagates_within clauses (l ∷ wider) p (within_more known wider l w) (within_more wider known l v))

pushed_within : (known : List Lit) (l : Lit) → Within (known ++ l ∷ []) (l ∷ known)
unfolding Within
pushed_within known l m c = elim (Contains-push_cases known l m c) [
  | inl d ↦ contains_tail l known m d
  | inr e ↦ subst (Contains (l ∷ known)) e (contains_head l known)
]

within_pushed : (known : List Lit) (l : Lit) → Within (l ∷ known) (known ++ l ∷ [])
unfolding Within
within_pushed known l m c = elim (contains_cons l known m c) [
  | inl e ↦ subst (Contains (known ++ l ∷ [])) (sym e) (Contains-push known l)
  | inr d ↦ Contains-append_left known (l ∷ []) m d
]

not_both : (known : List Lit) (c : Clause) (l : Lit) → IsConflicting known c → IsUnit known c l → ⊥
not_both known c l f u = u.unassigned.1 (All-contains (IsFalse known) c.lits l f u.among)

one_unit : (known : List Lit) (c : Clause) (l m : Lit) → IsUnit known c l → IsUnit known c m → m ≡ l
one_unit known c l m u v = elim (All-contains (λ x. (x ≡ l) ⊎ IsFalse known x) c.lits m u.others v.among) [
  | inl e ↦ e
  | inr f ↦ absurd (v.unassigned.1 f)
]

-- what the first hint is, where hints propagate
pub record Conflicts (clauses : List Clause) (known : List Lit) (hint : ℕ) (hints : List ℕ) : Type 0 where
  pub clause : Clause
  pub at : slice_get clauses hint ≡ Some clause
  pub fails : IsConflicting known clause
  pub last : hints ≡ []

pub record Goes (clauses : List Clause) (known : List Lit) (hint : ℕ) (hints : List ℕ) : Type 0 where
  pub clause : Clause
  pub lit : Lit
  pub at : slice_get clauses hint ≡ Some clause
  pub single : IsUnit known clause lit
  pub rest : Propagates clauses (lit ∷ known) hints

pub first : (clauses : List Clause) (known : List Lit) (hint : ℕ) (hints : List ℕ) → Propagates clauses known (hint ∷ hints) → Conflicts clauses known hint hints ⊎ Goes clauses known hint hints
first clauses known hint [] (conflict _ c at f) = inl (record { clause = c; at = at; fails = f; last = refl })
first clauses known hint hints (unit _ c l at u p) = inr (record { clause = c; lit = l; at = at; single = u; rest = p })

no_hints : (clauses : List Clause) (known : List Lit) → Propagates clauses known [] → ⊥
no_hints clauses known p = elim p [ ]

pub no_clause : (clauses : List Clause) (known : List Lit) (hint : ℕ) (hints : List ℕ) → slice_get clauses hint ≡ None → Propagates clauses known (hint ∷ hints) → ⊥
no_clause clauses known hint hints e p = elim (first clauses known hint hints p) [
  | inl x ↦ none-some x.clause (sym e ∙ x.at)
  | inr y ↦ none-some y.clause (sym e ∙ y.at)
]

module _ (clauses : List Clause) (known : List Lit) (hint : ℕ) (hints : List ℕ) (c : Clause) (at : slice_get clauses hint ≡ Some c) where
  pub neither : (IsConflicting known c → ⊥) → ((l : Lit) → IsUnit known c l → ⊥) → Propagates clauses known (hint ∷ hints) → ⊥
  neither f g p = elim (first clauses known hint hints p) [
    | inl x ↦ f (subst (IsConflicting known) (same_Some x.clause c (sym x.at ∙ at)) x.fails)
    | inr y ↦ g y.lit (subst (λ d. IsUnit known d y.lit) (same_Some y.clause c (sym y.at ∙ at)) y.single)
  ]

  pub at_conflict : IsConflicting known c → Propagates clauses known (hint ∷ hints) ↔ (hints ≡ [])
  at_conflict f = (
    λ p. elim (first clauses known hint hints p) [
      | inl x ↦ x.last
      | inr y ↦ absurd (not_both known c y.lit f (subst (λ d. IsUnit known d y.lit) (same_Some y.clause c (sym y.at ∙ at)) y.single))
    ],
    λ e. subst (λ hs. Propagates clauses known (hint ∷ hs)) (sym e) (conflict hint c at f),
  )

  pub at_unit : (l : Lit) → IsUnit known c l → Propagates clauses known (hint ∷ hints) ↔ Propagates clauses (known ++ l ∷ []) hints
  at_unit l u = (
    λ p. elim (first clauses known hint hints p) [
      | inl x ↦ absurd (not_both known c l (subst (IsConflicting known) (same_Some x.clause c (sym x.at ∙ at)) x.fails) u)
      | inr y ↦
          let e : y.lit ≡ l = one_unit known c l y.lit u (subst (λ d. IsUnit known d y.lit) (same_Some y.clause c (sym y.at ∙ at)) y.single) in
          propagates_within clauses (known ++ l ∷ []) (subst (λ m. Propagates clauses (m ∷ known) hints) e y.rest) (within_pushed known l) (pushed_within known l)
    ],
    λ p. unit hint c l at u (propagates_within clauses (l ∷ known) p (pushed_within known l) (within_pushed known l)),
  )

-- the hints from this one on lead to a conflict exactly where all of them did from the beginning
module _ (clauses : List Clause) (known initial : List Lit) (hints : List ℕ) (i : ℕ) (rest : Propagates clauses known (drop i hints) ↔ Propagates clauses initial hints) where
  pub runs_out : length hints ≤ i → IsTrue false ↔ Propagates clauses initial hints
  runs_out h = (λ t. absurd (false≢true t), λ p. absurd (no_hints clauses known (subst (Propagates clauses known) (drop_all i hints h) (rest.1 p))))

  pub stops : i < length hints → (Propagates clauses known (get_or hints i 0 ∷ drop (i + 1) hints) → ⊥) → IsTrue false ↔ Propagates clauses initial hints
  stops h fails = (λ t. absurd (false≢true t), λ p. absurd (fails (subst (Propagates clauses known) (drop_more hints i 0 h) (rest.1 p))))

  pub goes_on : i < length hints → (more : List Lit) → Propagates clauses known (get_or hints i 0 ∷ drop (i + 1) hints) ↔ Propagates clauses more (drop (i + 1) hints) → Propagates clauses more (drop (i + 1) hints) ↔ Propagates clauses initial hints
  goes_on h more step =
      (λ p. rest.0 (subst (Propagates clauses known) (sym (drop_more hints i 0 h)) (step.1 p)), λ p. step.0 (subst (Propagates clauses known) (drop_more hints i 0 h) (rest.1 p)))

  pub ends : i < length hints → Propagates clauses known (get_or hints i 0 ∷ drop (i + 1) hints) ↔ (drop (i + 1) hints ≡ []) → IsTrue (eqb (i + 1) (length hints)) ↔ Propagates clauses initial hints
  ends h step = (
    λ t. rest.0 (subst (Propagates clauses known) (sym (drop_more hints i 0 h))
        (step.1 (let e : i + 1 ≡ length hints = eqb-true (i + 1) (length hints) t in drop_all (i + 1) hints (omega arith)))),
    λ p.
        let e : drop (i + 1) hints ≡ [] = step.0 (subst (Propagates clauses known) (drop_more hints i 0 h) (rest.1 p)) in
        let n : length (drop (i + 1) hints) ≡ 0 = ap (length {A = ℕ}) e in
        eq-eqb (i + 1) (length hints) (omega (arith, length-drop (i + 1) hints)),
  )
