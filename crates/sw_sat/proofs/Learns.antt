-- What is learnt at the first unique implication point.
use Rattle.std.specs.Prelude.{◌≡◌, ◌+◌, ◌<◌, ◌≤◌, ◌⊎◌, ℕ, Bool, List, [], length, take, map, reverse, Some, slice_get, All, Contains}
use Rattle.std.proofs.Common.{sym, ap, ◌∙◌, inl, inr, subst, ⊎_elim, arith}
use Rattle.std.proofs.lemmas.Bool.{cases_lt, cases_eq}
use Rattle.std.proofs.lemmas.List.Elements.{All-contains}
use Rattle.std.proofs.lemmas.Option.{same_Some, slice_get_within}
use Rattle.sw_refute.specs.declared.clauses.Lit.{Lit}
use Rattle.sw_refute.specs.declared.clauses.Clause.{Clause}
use Rattle.sw_refute.specs.declared.clauses.Derived.{Derived}
use Rattle.sw_refute.specs.Satisfaction.{variable, negation, IsOver}
use Rattle.sw_refute.specs.Propagation.{IsFalse, IsUnit, IsConsistent, Propagates, IsAccepted}
use Rattle.sw_sat.specs.declared.analyze.Learnt.{Learnt}
use Rattle.sw_sat.specs.declared.trail.Entry.{Entry}
use Rattle.sw_sat.specs.Answers.{IsPartOf, ContainsNone}
use Rattle.sw_sat.specs.Analysis.{IsSeen, IsSeenAt, IsSeenBetween, IsUnique, Leads, IsCut, NegatesSeen, IsLearnt}
use Rattle.sw_sat.specs.Trail.{literals, IsUnassigned, IsTrueClause, IsOpenClause, IsSettled, IsConflict, IsTrail, IsDecision, IsLastDecision}
use Rattle.sw_sat.proofs.Founded.{consistent, free_before, later_apart}
use Rattle.sw_sat.proofs.Negation.{variable_negation}
use Rattle.sw_refute.proofs.Literals.{negation_twice}
use Rattle.sw_sat.proofs.Positions.{stands, Stands, stands_below, StandsBelow, among_front, front_grows, front_among}
use Rattle.sw_lists.proofs.Members.{all_of, contains_get, contains_map, contains_unmap}

module _ (variables : ℕ) (clauses : List Clause) (entries : List Entry) (trail : IsTrail variables clauses entries) where
  -- a conflict has a literal that was assigned at the last level
  pub some_of_level : (start number : ℕ) (seen : List Bool) → IsDecision entries start → IsConflict clauses (literals entries) number
      → ((c : Clause) → slice_get clauses number ≡ Some c → All (λ l. IsSeen seen (negation l)) c.lits) → IsSeenBetween seen entries start (length entries)
  some_of_level start number seen d f marks = ⊎_elim is_true is_open ((trail.each start d.entry d.is).decided d.decided number f.clause f.is)
    where
      is_true : IsTrueClause (literals (take start entries)) f.clause → IsSeenBetween seen entries start (length entries)
      is_true t = absurd (consistent variables clauses entries trail t.lit (front_among entries start t.lit t.holds) (All-contains (IsFalse (literals entries)) f.clause.lits t.lit f.false t.among))

      found : (l : Lit) → IsSeen seen (negation l) → (IsFalse (literals (take start entries)) l → ⊥) → Stands entries (negation l) → IsSeenBetween seen entries start (length entries)
      found l m free s = ⊎_elim
          (λ (h : s.at < start). absurd (free (subst (Contains (literals (take start entries))) s.lit (among_front entries start s.at s.entry h s.is))))
          (λ (h : start ≤ s.at). record {
            at = s.at;
            low = h;
            high = slice_get_within entries s.at s.entry s.is;
            here = record { entry = s.entry; is = s.is; is_seen = subst (IsSeen seen) (sym s.lit) m };
          }) (cases_lt s.at start)

      is_open : IsOpenClause (literals (take start entries)) f.clause → IsSeenBetween seen entries start (length entries)
      is_open o = found o.first (All-contains (λ l. IsSeen seen (negation l)) f.clause.lits o.first (marks f.clause f.is) o.among.0) o.unassigned.0.1
          (stands entries (negation o.first) (All-contains (IsFalse (literals entries)) f.clause.lits o.first f.false o.among.0))

  -- a conflict without decisions is shown by the empty clause
  module _ (seen : List Bool) (used : List ℕ) (start unique keep : ℕ) (c : Clause) (last : IsLastDecision entries start) (one : IsUnique seen entries start unique) (low : start ≤ unique)
      (leads : Leads clauses entries seen used (unique + 1)) (cut : IsCut seen entries start keep) (negates : NegatesSeen seen (literals (take (unique + 1) entries)) c) where
    abbrev Among : Lit → Type 0
    Among l = Contains c.lits l

    -- a literal that was seen up to the point stands negated in the clause
    among_seen : (at : ℕ) (e : Entry) → at < unique + 1 → slice_get entries at ≡ Some e → IsSeen seen e.lit → Among (negation e.lit)
    among_seen at e h is m = (negates (negation e.lit)).1
        (subst (Contains (literals (take (unique + 1) entries))) (sym (negation_twice e.lit)) (among_front entries (unique + 1) at e h is), subst (IsSeen seen) (sym (negation_twice e.lit)) m)

    -- each literal of the clause is the asserting one or false on what is kept
    parts : (l : Lit) → Among l → (l ≡ negation one.here.entry.lit) ⊎ Contains (literals (take keep entries)) (negation l)
    parts l a = let n = (negates l).0 a in go n.1 (stands_below entries (unique + 1) (negation l) n.0)
      where
        go : IsSeen seen (negation l) → StandsBelow entries (unique + 1) (negation l) → (l ≡ negation one.here.entry.lit) ⊎ Contains (literals (take keep entries)) (negation l)
        go m s =
            let b : s.at < unique + 1 = s.below in
            let here : IsSeenAt seen entries s.at = record { entry = s.entry; is = s.is; is_seen = subst (IsSeen seen) (sym s.lit) m } in
            ⊎_elim
            (λ (e : s.at ≡ unique).
            let i : s.entry ≡ one.here.entry = same_Some s.entry one.here.entry (sym s.is ∙ ap (slice_get entries) e ∙ one.here.is) in
            inl (sym (negation_twice l) ∙ ap negation (sym s.lit ∙ ap (λ (x : Entry). x.lit) i)))
            (λ (d : s.at ≡ unique → ⊥). ⊎_elim
            (λ (h : s.at < start). ⊎_elim (λ (k : s.at < keep). inr (subst (Contains (literals (take keep entries))) s.lit (among_front entries keep s.at s.entry k s.is)))
            (λ (k : keep ≤ s.at). absurd (cut.kept s.at k h here)) (cases_lt s.at keep))
            (λ (h : start ≤ s.at). absurd (one.only s.at h (omega arith) here)) (cases_lt s.at start))
            (cases_eq s.at unique)

    within_keep : keep ≤ unique
    within_keep = let h : keep ≤ start = cut.within in omega arith

    free : (p : ℕ) → p ≤ unique → IsUnassigned (literals (take p entries)) (negation one.here.entry.lit)
    free p h = free_before variables clauses entries trail p unique one.here.entry h one.here.is

    accepted : (s : Derived) → s.clause ≡ c → s.hints ≡ reverse used → IsAccepted variables clauses s
    accepted s same hints = record {
      over = subst (IsOver variables) (sym same) (all_of (λ l. variable l < variables) c.lits over);
      consistent = subst IsConsistent (sym same) (λ l a b. consistent variables clauses entries trail (negation l)
          (front_among entries (unique + 1) (negation l) ((negates l).0 a).0) (front_among entries (unique + 1) (negation (negation l)) ((negates (negation l)).0 b).0));
      propagates = subst (λ h. Propagates clauses (map negation s.clause.lits) h) (sym hints) (subst (λ (x : Clause). Propagates clauses (map negation x.lits) (reverse used)) (sym same)
          (leads.each (map negation c.lits)
          (λ l a. let r = contains_unmap negation c.lits l a in subst (Contains (literals (take (unique + 1) entries))) r.2 ((negates r.0).0 r.1).0)
          (λ l a m. subst (Contains (map negation c.lits)) (negation_twice l) (contains_map negation c.lits (negation l)
          ((negates (negation l)).1 (subst (Contains (literals (take (unique + 1) entries))) (sym (negation_twice l)) a, subst (IsSeen seen) (sym (negation_twice l)) m))))));
    }
      where
        over : (l : Lit) → Contains c.lits l → variable l < variables
        over l a =
            let s = stands_below entries (unique + 1) (negation l) ((negates l).0 a).0 in
            let o : variable s.entry.lit < variables = (trail.each s.at s.entry s.is).over in
            let e : variable s.entry.lit ≡ variable l = ap variable s.lit ∙ variable_negation l in
            subst (λ n. n < variables) e o

    asserting_among : Among (negation one.here.entry.lit)
    asserting_among = among_seen unique one.here.entry (omega arith) one.here.is one.here.is_seen

    new : ContainsNone clauses c
    new = all_of (λ d. IsPartOf d c → ⊥) clauses (λ d a part. let g = contains_get clauses d a in
        ⊎_elim (is_true d part) (is_open d part) ((trail.each start last.here.entry last.here.is).decided last.here.decided g.0 d g.1))
      where
        is_true : (d : Clause) → IsPartOf d c → IsTrueClause (literals (take start entries)) d → ⊥
        is_true d part t = ⊎_elim
            (λ (e : t.lit ≡ negation one.here.entry.lit). (free start low).0 (subst (Contains (literals (take start entries))) e t.holds))
            (λ f. consistent variables clauses entries trail t.lit (front_among entries start t.lit t.holds) (front_among entries keep (negation t.lit) f))
            (parts t.lit (All-contains Among d.lits t.lit part t.among))

        same : (d : Clause) (l : Lit) → IsPartOf d c → Contains d.lits l → (IsFalse (literals (take start entries)) l → ⊥) → l ≡ negation one.here.entry.lit
        same d l part a unassigned = ⊎_elim (λ e. e) (λ f. absurd (unassigned (front_grows entries keep start (negation l) cut.within f))) (parts l (All-contains Among d.lits l part a))

        is_open : (d : Clause) → IsPartOf d c → IsOpenClause (literals (take start entries)) d → ⊥
        is_open d part o = o.differ (same d o.first part o.among.0 o.unassigned.0.1 ∙ sym (same d o.second part o.among.1 o.unassigned.1.1))

    unit : IsUnit (literals (take keep entries)) c (negation one.here.entry.lit)
    unit = record {
      among = asserting_among;
      unassigned = free keep within_keep;
      others = all_of (λ m. (m ≡ negation one.here.entry.lit) ⊎ IsFalse (literals (take keep entries)) m) c.lits parts;
    }

    settled : (at : ℕ) → at < keep → IsDecision entries at → IsSettled (literals (take at entries)) c
    settled at h d =
        let q = cut.levels at h d in
        let ql : at ≤ q.at = q.low in
        let qh : q.at < start = q.high in
        let qu : q.at < unique = omega arith in
        inr (record {
          first = negation one.here.entry.lit;
          second = negation q.here.entry.lit;
          differ = λ e. (later_apart variables clauses entries trail q.at unique q.here.entry one.here.entry qu q.here.is one.here.is).0
              (sym (negation_twice q.here.entry.lit) ∙ ap negation (sym e) ∙ negation_twice one.here.entry.lit);
          among = (asserting_among, among_seen q.at q.here.entry (omega arith) q.here.is q.here.is_seen);
          unassigned = (free at (omega arith), free_before variables clauses entries trail at q.at q.here.entry ql q.here.is);
        })

    pub learns : (learnt : Learnt) → learnt.step.clause ≡ c → learnt.step.hints ≡ reverse used → learnt.asserting ≡ negation one.here.entry.lit → learnt.keep ≡ keep → IsLearnt variables clauses entries learnt
    learns learnt same hints lit kept = record {
      accepted = accepted learnt.step same hints;
      nonempty = λ e. none (subst (λ ls. Contains ls (negation one.here.entry.lit)) (sym (ap (λ (x : Clause). x.lits) same) ∙ e) asserting_among);
      new = subst (ContainsNone clauses) (sym same) new;
      cut = subst (IsDecision entries) (sym kept) cut.decision;
      unit = subst (λ n. IsUnit (literals (take n entries)) learnt.step.clause learnt.asserting) (sym kept)
          (subst (λ d. IsUnit (literals (take keep entries)) d learnt.asserting) (sym same) (subst (IsUnit (literals (take keep entries)) c) (sym lit) unit));
      settled = λ at h d. subst (IsSettled (literals (take at entries))) (sym same) (settled at (subst (λ n. at < n) kept h) d);
    }
      where
        none : Contains [] (negation one.here.entry.lit) → ⊥
        none (k, h, e) = omega arith
