-- Which clauses wait to be read, as a trail grows.
use Rattle.std.specs.Prelude.{◌≡◌, ◌+◌, ◌-◌, ◌<◌, ◌≤◌, ◌⊎◌, ℕ, List, [], ◌∷◌, ◌++◌, length, Some, slice_get, Contains}
use Rattle.std.proofs.Common.{sym, ap, ◌∙◌, inl, inr, subst, ⊎_elim, arith, append_assoc, get_or}
use Rattle.std.proofs.lemmas.Bool.{cases_eq}
use Rattle.std.proofs.lemmas.List.{append-nil, length_push}
use Rattle.std.proofs.lemmas.Option.{same_Some, slice_get_within}
use Rattle.sw_refute.specs.declared.clauses.Clause.{Clause}
use Rattle.sw_refute.specs.declared.clauses.Lit.{Lit}
use Rattle.sw_refute.specs.Satisfaction.{negation}
use Rattle.sw_refute.proofs.Literals.{same_literal, negation_twice}
use Rattle.sw_sat.specs.declared.trail.Entry.{Entry}
use Rattle.sw_sat.specs.Occurring.{IsIndex}
use Rattle.sw_sat.specs.Trail.{literals, IsUnassigned, IsOpenClause, IsSettled, IsFixpoint, IsQuiet, AreQuiet, IsQuietFrom, IsReady, Grows}
use Rattle.sw_sat.proofs.Agreement.{push_cases, push_left, push_right}
use Rattle.sw_lists.proofs.Places.{get_append_left, get_append_at, get_push_cases}

cases_literal : (l m : Lit) → (l ≡ m) ⊎ (l ≡ m → ⊥)
cases_literal l m = ⊎_elim (λ e. inl (same_literal l m e)) (λ d. inr (λ e. d (ap (λ (x : Lit). x.0) e))) (cases_eq l.0 m.0)

module _ (old : List Entry) (e : Entry) where
  pub unit_push : (c : Clause) → Contains c.lits e.lit → IsSettled (literals (old ++ e ∷ [])) c
  unit_push c among = inl (record { lit = e.lit; among = among; holds = push_right old e })

  module _ (c : Clause) (from : ℕ) (h : from ≤ length old) where
    -- a clause of which the entry makes a literal false is awaited there
    awaited_push : (l : Lit) → Contains c.lits l → e.lit ≡ negation l → IsQuiet (old ++ e ∷ []) from c
    awaited_push l among is = inr (record {
      at = length old;
      low = h;
      entry = e;
      is = get_append_at old e [];
      among = subst (Contains c.lits) (sym (ap negation is ∙ negation_twice l)) among;
    })

    -- an unassigned literal of the clause becomes true, or false, or stays unassigned
    free_push : (l : Lit) → Contains c.lits l → IsUnassigned (literals old) l → IsQuiet (old ++ e ∷ []) from c ⊎ IsUnassigned (literals (old ++ e ∷ [])) l
    free_push l among free = ⊎_elim (λ (i : e.lit ≡ l). inl (inl (unit_push c (subst (Contains c.lits) (sym i) among))))
        (λ (a : e.lit ≡ l → ⊥). ⊎_elim (λ (i : e.lit ≡ negation l). inl (awaited_push l among i))
        (λ (b : e.lit ≡ negation l → ⊥). inr (λ x. ⊎_elim free.0 a (push_cases old e l x), λ x. ⊎_elim free.1 b (push_cases old e (negation l) x)))
        (cases_literal e.lit (negation l))) (cases_literal e.lit l)

    open_push : IsOpenClause (literals old) c → IsQuiet (old ++ e ∷ []) from c
    open_push o = ⊎_elim (λ q. q) (λ x. ⊎_elim (λ q. q)
        (λ y. inl (inr (record { first = o.first; second = o.second; differ = o.differ; among = o.among; unassigned = (x, y) })))
        (free_push o.second o.among.1 o.unassigned.1)) (free_push o.first o.among.0 o.unassigned.0)

    pub quiet_push : IsQuiet old from c → IsQuiet (old ++ e ∷ []) from c
    quiet_push (inl (inl t)) = inl (inl (record { lit = t.lit; among = t.among; holds = push_left old e t.lit t.holds }))
    quiet_push (inl (inr o)) = open_push o
    quiet_push (inr a) = inr (record { at = a.at; low = a.low; entry = a.entry; is = get_append_left old (e ∷ []) a.at a.entry a.is; among = a.among })

pub quiet_grows : (c : Clause) (from : ℕ) (old new : List Entry) → Grows old new → from ≤ length old → IsQuiet old from c → IsQuiet new from c
quiet_grows c from old new g h q = subst (λ es. IsQuiet es from c) (sym g.is) (go g.more old h q)
  where
    go : (more front : List Entry) → from ≤ length front → IsQuiet front from c → IsQuiet (front ++ more) from c
    go [] front h q = subst (λ es. IsQuiet es from c) (sym (append-nil front)) q
    go (e ∷ more) front h q =
        let n : length (front ++ e ∷ []) ≡ length front + 1 = length_push front e in
        subst (λ es. IsQuiet es from c) (append_assoc front (e ∷ []) more) (go more (front ++ e ∷ []) (omega arith) (quiet_push front e c from h q))

pub quiet_weaker : (c : Clause) (entries : List Entry) (from to : ℕ) → from ≤ to → IsQuiet entries to c → IsQuiet entries from c
quiet_weaker c entries from to h (inl s) = inl s
quiet_weaker c entries from to h (inr a) = let l : to ≤ a.at = a.low in inr (record { at = a.at; low = omega arith; entry = a.entry; is = a.is; among = a.among })

-- nothing is awaited past the end
pub quiet_end : (c : Clause) (entries : List Entry) (from : ℕ) → length entries ≤ from → IsQuiet entries from c → IsSettled (literals entries) c
quiet_end c entries from h (inl s) = s
quiet_end c entries from h (inr a) =
    let l : from ≤ a.at = a.low in
    let w : a.at < length entries = slice_get_within entries a.at a.entry a.is in
    absurd (omega arith)

-- after an entry was added where propagation had nothing to do
pub ready_push : (clauses : List Clause) (old new : List Entry) (e : Entry) → IsFixpoint clauses (literals old) → new ≡ old ++ e ∷ [] → IsReady clauses new
ready_push clauses old new e fixpoint is _ number c got =
    let n : length new ≡ length old + 1 = ap length is ∙ length_push old e in
    let m : length new - 1 ≡ length old = omega arith in
    subst (λ (k : ℕ). IsQuiet new k c) (sym m) (subst (λ es. IsQuiet es (length old) c) (sym is) (quiet_push old e c (length old) (omega arith) (inl (fixpoint number c got))))

-- the same with a clause more, of which the entry makes a literal true
pub ready_learnt : (clauses : List Clause) (d : Clause) (old new : List Entry) (e : Entry) → IsFixpoint clauses (literals old) → new ≡ old ++ e ∷ [] → Contains d.lits e.lit → IsReady (clauses ++ d ∷ []) new
ready_learnt clauses d old new e fixpoint is among some number c got = ⊎_elim
    (λ x. ready_push clauses old new e fixpoint is some number c x)
    (λ (x : (number ≡ length clauses) × (c ≡ d)). inl (subst (λ es. IsSettled (literals es) c) (sym is) (unit_push old e c (subst (λ (y : Clause). Contains y.lits e.lit) (sym x.1) among))))
    (get_push_cases clauses d number c got)

-- the clauses in which the entry's literal is false were read: the next entry is at the head
pub quiet_next : (variables : ℕ) (clauses : List Clause) (lists : List (List ℕ)) (old new : List Entry) (head : ℕ) (e : Entry) → IsIndex variables clauses lists → slice_get old head ≡ Some e
    → IsQuietFrom clauses old head → Grows old new → AreQuiet clauses (get_or lists (negation e.lit).0 []) new (length old) → IsQuietFrom clauses new (head + 1)
quiet_next variables clauses lists old new head e index here quiet g were number c got = go (quiet number c got)
  where
    within : head < length old
    within = slice_get_within old head e here

    later : IsQuiet old (head + 1) c → IsQuiet new (head + 1) c
    later q = quiet_grows c (head + 1) old new g (omega (arith, within)) q

    go : IsQuiet old head c → IsQuiet new (head + 1) c
    go (inl s) = later (inl s)
    go (inr a) = let l : head ≤ a.at = a.low in ⊎_elim
        (λ (i : a.at ≡ head).
        let same : a.entry ≡ e = same_Some a.entry e (sym a.is ∙ ap (slice_get old) i ∙ here) in
        let among : Contains c.lits (negation e.lit) = subst (λ (x : Entry). Contains c.lits (negation x.lit)) same a.among in
        quiet_weaker c new (head + 1) (length old) (omega (arith, within)) (were number c (index.complete number c (negation e.lit) got among) got))
        (λ (d : a.at ≡ head → ⊥). later (inr (record { at = a.at; low = omega arith; entry = a.entry; is = a.is; among = a.among })))
        (cases_eq a.at head)
