-- Which literals of a trail were seen.
use Rattle.std.specs.Prelude.{◌≡◌, ◌+◌, ◌-◌, ◌<◌, ◌≤◌, ℕ, Bool, true, false, List, [], ◌∷◌, ◌++◌, length, take, None, Some, slice_get, All, Contains}
use Rattle.std.proofs.Common.{sym, ap, ◌∙◌, subst, ⊎_elim, get_or, set, arith}
use Rattle.std.proofs.lemmas.Bool.{cases_eq, cases_lt, false≢true}
use Rattle.std.proofs.lemmas.Option.{same_Some}
use Rattle.std.proofs.lemmas.List.{get_or-set_same, get_or-set_other}
use Rattle.std.proofs.lemmas.List.Elements.{Contains-append_left as lit_left_of, Contains-push as lit_right, Contains-push_cases as lit_cases, All-more, All-weaker}
use Rattle.sw_refute.specs.declared.clauses.Lit.{Lit}
use Rattle.sw_refute.specs.Satisfaction.{negation}
use Rattle.sw_sat.specs.declared.trail.Entry.{Entry}
use Rattle.sw_sat.specs.Analysis.{IsSeen, KeepsSeen, IsSeenAt, NoneSeenBetween, IsCut, NegatesSeen}
use Rattle.sw_sat.specs.Trail.{literals, IsDecision}
use Rattle.sw_sat.proofs.Agreement.{push_cases, push_left, push_right}
use Rattle.sw_refute.proofs.Literals.{negation_twice}

pub seen_set : (seen : List Bool) (n : ℕ) → n < length seen → KeepsSeen seen (set seen n true)
seen_set seen n h l m = ⊎_elim (λ (e : l.0 ≡ n). subst (λ k. get_or (set seen n true) k false ≡ true) (sym e) (get_or-set_same seen n true false h))
    (λ (d : l.0 ≡ n → ⊥). get_or-set_other seen n l.0 true false d ∙ m) (cases_eq l.0 n)

module _ (seen : List Bool) (entries : List Entry) where
  pub not_met_at : (at : ℕ) (e : Entry) → slice_get entries at ≡ Some e → get_or seen e.lit.0 false ≡ false → IsSeenAt seen entries at → ⊥
  not_met_at at e is f m =
      let i : m.entry ≡ e = same_Some m.entry e (sym m.is ∙ is) in
      false≢true (sym (subst (λ (x : Entry). get_or seen x.lit.0 false ≡ false) (sym i) f) ∙ m.is_seen)

  pub none_down : (at to : ℕ) → 0 < at → NoneSeenBetween seen entries at to → (IsSeenAt seen entries (at - 1) → ⊥) → NoneSeenBetween seen entries (at - 1) to
  none_down at to pos none here k low high m =
      ⊎_elim (λ (e : k ≡ at - 1). here (subst (IsSeenAt seen entries) e m)) (λ (d : k ≡ at - 1 → ⊥). none k (omega arith) high m) (cases_eq k (at - 1))

  pub not_decision : (at : ℕ) (e : Entry) → slice_get entries at ≡ Some e → (e.reason ≡ None → ⊥) → IsDecision entries at → ⊥
  not_decision at e is f d = let i : d.entry ≡ e = same_Some d.entry e (sym d.is ∙ is) in f (subst (λ (x : Entry). x.reason ≡ None) i d.decided)

  pub levels_down : (at keep : ℕ) → 0 < at → ((k : ℕ) → at ≤ k → k < keep → IsDecision entries k → ⊥) → (IsDecision entries (at - 1) → ⊥) → (k : ℕ) → at - 1 ≤ k → k < keep → IsDecision entries k → ⊥
  levels_down at keep pos none here k low high d =
      ⊎_elim (λ (e : k ≡ at - 1). here (subst (IsDecision entries) e d)) (λ (n : k ≡ at - 1 → ⊥). none k (omega arith) high d) (cases_eq k (at - 1))

  pub cut_at_seen : (at keep start : ℕ) → IsDecision entries keep → at ≤ keep → keep ≤ start → NoneSeenBetween seen entries at start
      → ((k : ℕ) → at ≤ k → k < keep → IsDecision entries k → ⊥) → 0 < at → IsSeenAt seen entries (at - 1) → IsCut seen entries start keep
  cut_at_seen at keep start decision low high none levels pos here = record {
    decision = decision;
    within = high;
    kept = λ k l h m. none k (omega arith) h m;
    levels = λ k h d. ⊎_elim (λ (a : k < at). record { at = at - 1; low = omega arith; high = omega arith; here = here }) (λ (b : at ≤ k). absurd (levels k b h d)) (cases_lt k at);
  }

module _ (seen : List Bool) where
  -- the clause that negates what was seen, with one more entry
  pub negates_seen : (front : List Entry) (e : Entry) (lits : List Lit) → NegatesSeen seen (literals front) (record { lits = lits }) → IsSeen seen e.lit → NegatesSeen seen (literals (front ++ e ∷ [])) (record { lits = lits ++ negation e.lit ∷ [] })
  negates_seen front e lits n h l = (
    λ c. ⊎_elim (λ a. let b = (n l).0 a in (push_left front e (negation l) b.0, b.1))
        (λ (i : negation e.lit ≡ l). let j : negation l ≡ e.lit = sym (ap negation i) ∙ negation_twice e.lit in
        (subst (Contains (literals (front ++ e ∷ []))) (sym j) (push_right front e), subst (IsSeen seen) (sym j) h)) (lit_cases lits (negation e.lit) l c),
    λ b. ⊎_elim (λ a. lit_left_of lits (negation e.lit ∷ []) l ((n l).1 (a, b.1))) (λ (i : e.lit ≡ negation l). subst (Contains (lits ++ negation e.lit ∷ [])) (ap negation i ∙ negation_twice l) (lit_right lits (negation e.lit))) (push_cases front e (negation l) b.0),
  )

  pub negates_other : (front : List Entry) (e : Entry) (lits : List Lit) → NegatesSeen seen (literals front) (record { lits = lits }) → get_or seen e.lit.0 false ≡ false → NegatesSeen seen (literals (front ++ e ∷ [])) (record { lits = lits })
  negates_other front e lits n f l = (
    λ c. let b = (n l).0 c in (push_left front e (negation l) b.0, b.1),
    λ b. ⊎_elim (λ a. (n l).1 (a, b.1)) (λ (i : e.lit ≡ negation l). absurd (false≢true (sym f ∙ subst (IsSeen seen) (sym i) b.1))) (push_cases front e (negation l) b.0),
  )

-- one more literal of a clause is seen
pub marks_more : (seen : List Bool) (items lits : List Lit) (k n : ℕ) (d : Lit) → items ≡ lits → k < length items → n ≡ (negation (get_or items k d)).0 → n < length seen
    → All (λ m. IsSeen seen (negation m)) (take k lits) → All (λ m. IsSeen (set seen n true) (negation m)) (take (k + 1) lits)
marks_more seen items lits k n d same h e within all =
    let P : Lit → Type 0 = λ m. IsSeen (set seen n true) (negation m) in
    subst (λ ls. All P (take (k + 1) ls)) same
    (All-more P items k d h (All-weaker (λ m. IsSeen seen (negation m)) P (λ m x. seen_set seen n within (negation m) x) (take k items) (subst (λ ls. All (λ m. IsSeen seen (negation m)) (take k ls)) (sym same) all))
    (subst (λ (j : ℕ). get_or (set seen n true) j false ≡ true) e (get_or-set_same seen n true false within)))
