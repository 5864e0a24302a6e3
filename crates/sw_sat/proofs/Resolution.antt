-- What the clauses used in an analysis show, as it walks back through the trail.
use Rattle.std.specs.Prelude.{◌≡◌, ◌+◌, ◌<◌, ◌≤◌, ◌⊎◌, ℕ, Bool, List, [], ◌∷◌, ◌++◌, length, take, reverse, Some, slice_get, All, Contains}
use Rattle.std.proofs.Common.{sym, ap, ◌∙◌, inl, inr, subst, ⊎_elim, get_or, arith}
use Rattle.std.proofs.lemmas.Bool.{cases_lt}
use Rattle.std.proofs.lemmas.List.{reverse-append, take_all}
use Rattle.std.proofs.lemmas.Option.{same_Some}
use Rattle.sw_refute.specs.declared.clauses.Lit.{Lit}
use Rattle.sw_refute.specs.declared.clauses.Clause.{Clause}
use Rattle.sw_refute.specs.Satisfaction.{negation}
use Rattle.sw_refute.specs.Propagation.{IsConflicting, IsUnit, Propagates}
use Rattle.sw_sat.specs.declared.trail.Entry.{Entry}
use Rattle.sw_sat.specs.Analysis.{IsSeen, KeepsSeen, IsSeenAt, Leads}
use Rattle.sw_sat.specs.Trail.{literals, Forces}
use Rattle.sw_sat.proofs.Positions.{stands_below, StandsBelow, among_front, front_grows}
use Rattle.sw_lists.proofs.Members.{contains_cons, contains_head, contains_tail}

module _ (clauses : List Clause) (entries : List Entry) where
  pub begins : (seen : List Bool) (used : List ℕ) (number : ℕ) (c : Clause) → slice_get clauses number ≡ Some c → IsConflicting (literals entries) c
      → All (λ l. IsSeen seen (negation l)) c.lits → used ≡ number ∷ [] → Leads clauses entries seen used (length entries)
  begins seen used number c is false marks one = record {
    each = λ known within among.
        let all : take (length entries) entries ≡ entries = take_all (length entries) entries (omega arith) in
        subst (λ u. Propagates clauses known (reverse u)) (sym one)
        (Propagates.conflict number c is (λ k d h. among (negation (get_or c.lits k d))
        (subst (λ es. Contains (literals es) (negation (get_or c.lits k d))) (sym all) (false k d h)) (marks k d h)));
  }

  -- a literal that was seen no longer stands before the position below
  cases_below : (at : ℕ) (l : Lit) → StandsBelow entries (at + 1) l → Contains (literals (take at entries)) l ⊎ ((e : Entry) × (slice_get entries at ≡ Some e) × (e.lit ≡ l))
  cases_below at l s =
      let b : s.at < at + 1 = s.below in
      ⊎_elim (λ (h : s.at < at). inl (subst (Contains (literals (take at entries))) s.lit (among_front entries at s.at s.entry h s.is)))
      (λ (h : at ≤ s.at). let i : s.at ≡ at = omega arith in inr (s.entry, subst (λ (n : ℕ). slice_get entries n ≡ Some s.entry) i s.is, s.lit)) (cases_lt s.at at)

  pub skips : (seen : List Bool) (used : List ℕ) (at : ℕ) → Leads clauses entries seen used (at + 1) → (IsSeenAt seen entries at → ⊥) → Leads clauses entries seen used at
  skips seen used at leads none = record {
    each = λ known within among. leads.each known (λ l c. front_grows entries at (at + 1) l (omega arith) (within l c))
        (λ l c m. ⊎_elim (λ a. among l a m)
        (λ (b : (e : Entry) × (slice_get entries at ≡ Some e) × (e.lit ≡ l)). absurd (none (record { entry = b.0; is = b.1; is_seen = subst (IsSeen seen) (sym b.2) m })))
        (cases_below at l (stands_below entries (at + 1) l c)));
  }

  pub resolves : (old new : List Bool) (used more : List ℕ) (at number : ℕ) (e : Entry) → Leads clauses entries old used (at + 1) → slice_get entries at ≡ Some e
      → (f : Forces clauses (literals (take at entries)) number e.lit) → All (λ l. IsSeen new (negation l)) f.clause.lits → KeepsSeen old new → more ≡ used ++ number ∷ []
      → Leads clauses entries new more at
  resolves old new used more at number e leads is f marks keeps longer = record {
    each = λ known within among.
        let unit : IsUnit known f.clause e.lit = record {
          among = f.unit.among;
          unassigned = (λ c. f.unit.unassigned.0 (within e.lit c), λ c. f.unit.unassigned.1 (within (negation e.lit) c));
          others = λ k d h. ⊎_elim (λ a. inl a) (λ b. inr (among (negation (get_or f.clause.lits k d)) b (marks k d h))) (f.unit.others k d h);
        } in
        let next : Propagates clauses (e.lit ∷ known) (reverse used) = leads.each (e.lit ∷ known)
        (λ l c. ⊎_elim (λ (i : l ≡ e.lit). subst (Contains (literals (take (at + 1) entries))) (sym i) (among_front entries (at + 1) at e (omega arith) is))
        (λ a. front_grows entries at (at + 1) l (omega arith) (within l a)) (contains_cons e.lit known l c))
        (λ l c m. ⊎_elim (λ a. contains_tail e.lit known l (among l a (keeps l m)))
        (λ (b : (x : Entry) × (slice_get entries at ≡ Some x) × (x.lit ≡ l)).
        let i : e ≡ b.0 = same_Some e b.0 (sym is ∙ b.1) in
        subst (Contains (e.lit ∷ known)) (ap (λ (x : Entry). x.lit) i ∙ b.2) (contains_head e.lit known))
        (cases_below at l (stands_below entries (at + 1) l c))) in
        let turned : reverse more ≡ number ∷ reverse used = ap reverse longer ∙ reverse-append used (number ∷ []) in
        subst (Propagates clauses known) (sym turned) (Propagates.unit number f.clause e.lit f.is unit next);
  }
