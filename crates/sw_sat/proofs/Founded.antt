-- Trails: no literal stands with its negation, none stands twice, and what may be added or taken away.
use Rattle.std.specs.Prelude.{◌≡◌, ◌*◌, ◌<◌, ◌≤◌, ℕ, false, List, [], ◌∷◌, ◌++◌, length, take, map, None, Some, slice_get, All, Contains}
use Rattle.std.proofs.Common.{refl, sym, ap, ◌∙◌, subst, ⊎_elim, get_or, eqb, arith}
use Rattle.std.proofs.lemmas.Bool.{cases_order, false_from_ne_true, eqb-true}
use Rattle.std.proofs.lemmas.Bool.Decides.{Decides-eqb}
use Rattle.std.proofs.lemmas.List.{take-take, take-append-le, take_at, length-map, get_or-map}
use Rattle.std.proofs.lemmas.Map.Keys.{IsDistinct-from_apart}
use Rattle.std.proofs.lemmas.Map.Made.{is_member-Decides}
use Rattle.std.proofs.lemmas.Map.Steps.{length-le_from_distinct_below}
use Rattle.std.proofs.lemmas.Option.{same_Some, slice_get_within, slice_get-get_or}
use Rattle.sw_refute.specs.declared.clauses.Lit.{Lit}
use Rattle.sw_refute.specs.declared.clauses.Clause.{Clause}
use Rattle.sw_refute.specs.Satisfaction.{variable, negation, IsOver}
use Rattle.sw_sat.specs.declared.trail.Entry.{Entry}
use Rattle.sw_sat.specs.Trail.{literals, IsUnassigned, IsSettled, MayFollow, IsTrail, IsDecision}
use Rattle.sw_sat.proofs.Negation.{negation_differs, same_variable, number_below}
use Rattle.sw_refute.proofs.Literals.{negation_twice}
use Rattle.sw_sat.proofs.Positions.{Stands, stands, among_front, front_grows}
use Rattle.sw_lists.proofs.Places.{get_take, get_append_left, get_push_cases}

pub read_at : {X : Type 0} (xs : List X) (i : ℕ) (x : X) → i < length xs → x ≡ get_or xs i x → slice_get xs i ≡ Some x
read_at xs i x h e = slice_get-get_or xs i x h ∙ ap (λ y. Some y) (sym e)

-- a clause of a list over these variables
pub over_at : (variables : ℕ) (clauses : List Clause) (number : ℕ) (c : Clause) → All (IsOver variables) clauses → slice_get clauses number ≡ Some c → IsOver variables c
over_at variables clauses number c over is =
    let h : number < length clauses = slice_get_within clauses number c is in
    let i : get_or clauses number c ≡ c = same_Some (get_or clauses number c) c (sym (slice_get-get_or clauses number c h) ∙ is) in
    subst (IsOver variables) i (over number c h)

module _ (variables : ℕ) (clauses : List Clause) (entries : List Entry) (trail : IsTrail variables clauses entries) where
  -- two entries of one variable stand at one position
  pub later_apart : (i j : ℕ) (a b : Entry) → i < j → slice_get entries i ≡ Some a → slice_get entries j ≡ Some b → (a.lit ≡ b.lit → ⊥) × (a.lit ≡ negation b.lit → ⊥)
  later_apart i j a b h p q =
      let free : IsUnassigned (literals (take j entries)) b.lit = (trail.each j b q).unassigned in
      let here : Contains (literals (take j entries)) a.lit = among_front entries j i a h p in
      (λ e. free.0 (subst (Contains (literals (take j entries))) e here), λ e. free.1 (subst (Contains (literals (take j entries))) e here))

  pub consistent : (l : Lit) → Contains (literals entries) l → Contains (literals entries) (negation l) → ⊥
  consistent l x y = go (stands entries l x) (stands entries (negation l) y)
    where
      go : Stands entries l → Stands entries (negation l) → ⊥
      go s t = ⊎_elim
          (λ (e : s.at ≡ t.at). let i : s.entry ≡ t.entry = same_Some s.entry t.entry (sym s.is ∙ ap (slice_get entries) e ∙ t.is) in
          negation_differs l (sym s.lit ∙ ap (λ (x : Entry). x.lit) i ∙ t.lit))
          (λ d. ⊎_elim
          (λ (h : s.at < t.at). (later_apart s.at t.at s.entry t.entry h s.is t.is).1 (s.lit ∙ sym (ap negation t.lit ∙ negation_twice l)))
          (λ (h : t.at < s.at). (later_apart t.at s.at t.entry s.entry h t.is s.is).1 (t.lit ∙ sym (ap negation s.lit))) d)
          (cases_order s.at t.at)

  -- before a position, the literal there and its negation are unassigned
  pub free_before : (p q : ℕ) (e : Entry) → p ≤ q → slice_get entries q ≡ Some e → IsUnassigned (literals (take p entries)) (negation e.lit)
  free_before p q e h is =
      let free : IsUnassigned (literals (take q entries)) e.lit = (trail.each q e is).unassigned in (
        λ c. free.1 (front_grows entries p q (negation e.lit) h c),
        λ c. free.0 (front_grows entries p q e.lit h (subst (Contains (literals (take p entries))) (negation_twice e.lit) c)),
      )

  pub numbers_below : (n : ℕ) → n ≡ 2 * variables → All (λ (e : Entry). e.lit.0 < n) entries
  numbers_below n size k d h =
      let is : slice_get entries k ≡ Some (get_or entries k d) = slice_get-get_or entries k d h in
      let below : (get_or entries k d).lit.0 < 2 * variables = number_below variables (get_or entries k d).lit (trail.each k (get_or entries k d) is).over in
      omega arith

  pub may_follow_more : (c : Clause) (front : List Entry) (e : Entry) → MayFollow variables clauses front e → (e.reason ≡ None → IsSettled (literals front) c) → MayFollow variables (clauses ++ c ∷ []) front e
  may_follow_more c front e m settled = record {
    over = m.over;
    unassigned = m.unassigned;
    forced = λ n h. let f = m.forced n h in record { clause = f.clause; is = get_append_left clauses (c ∷ []) n f.clause f.is; unit = f.unit };
    decided = λ h n d is. ⊎_elim (λ old. m.decided h n d old) (λ (new : (n ≡ length clauses) × (d ≡ c)). subst (IsSettled (literals front)) (sym new.1) (settled h)) (get_push_cases clauses c n d is);
    lowest = m.lowest;
  }

  -- the front of a trail, for one more clause with which propagation had nothing to do at the decisions
  pub front_trail : (c : Clause) (keep : ℕ) → ((at : ℕ) → at < keep → IsDecision entries at → IsSettled (literals (take at entries)) c) → IsTrail variables (clauses ++ c ∷ []) (take keep entries)
  front_trail c keep settled = record {
    each = λ at e is.
        let g : (at < keep) × (slice_get entries at ≡ Some e) = get_take keep entries at e is in
        let low : at ≤ keep = omega (arith, g.0) in
        subst (λ front. MayFollow variables (clauses ++ c ∷ []) front e) (sym (take-take at keep entries low))
        (may_follow_more c (take at entries) e (trail.each at e g.1) (λ h. settled at g.0 (record { entry = e; is = g.1; decided = h })));
  }

  pub push_trail : (e : Entry) → MayFollow variables clauses entries e → IsTrail variables clauses (entries ++ e ∷ [])
  push_trail e m = record {
    each = λ at x is. ⊎_elim
        (λ old. let h : at < length entries = slice_get_within entries at x old in let low : at ≤ length entries = omega arith in
        subst (λ front. MayFollow variables clauses front x) (sym (take-append-le at entries (e ∷ []) low)) (trail.each at x old))
        (λ (new : (at ≡ length entries) × (x ≡ e)).
        subst (λ (n : ℕ). MayFollow variables clauses (take n (entries ++ e ∷ [])) x) (sym new.0)
        (subst (λ front. MayFollow variables clauses front x) (sym (take_at entries (e ∷ []) (length entries) refl)) (subst (MayFollow variables clauses entries) (sym new.1) m)))
        (get_push_cases entries e at x is);
  }

  -- no trail is longer than there are variables
  pub short : length entries ≤ variables
  short = let vars : List ℕ = map (λ (e : Entry). variable e.lit) entries in
      subst (λ n. n ≤ variables) (length-map entries (λ (e : Entry). variable e.lit))
      (length-le_from_distinct_below vars variables
      (IsDistinct-from_apart eqb vars (λ i j d h k. apart i j d h k))
      (λ q t. below q ((is_member-Decides Decides-eqb vars q).0 t)))
    where
      apart : (i j d : ℕ) → i < j → j < length (map (λ (e : Entry). variable e.lit) entries)
          → eqb (get_or (map (λ (e : Entry). variable e.lit) entries) i d) (get_or (map (λ (e : Entry). variable e.lit) entries) j d) ≡ false
      apart i j d h k = false_from_ne_true _ (λ t.
          let n : length (map (λ (e : Entry). variable e.lit) entries) ≡ length entries = length-map entries (λ (e : Entry). variable e.lit) in
          let jn : j < length entries = omega arith in
          let i_n : i < length entries = omega arith in
          let z : Entry = record { lit = record { 0 = 0 }; reason = None } in
          let a : Entry = get_or entries i z in
          let b : Entry = get_or entries j z in
          let ea : get_or (map (λ (e : Entry). variable e.lit) entries) i d ≡ variable a.lit = get_or-map (λ (e : Entry). variable e.lit) entries i z d i_n in
          let eb : get_or (map (λ (e : Entry). variable e.lit) entries) j d ≡ variable b.lit = get_or-map (λ (e : Entry). variable e.lit) entries j z d jn in
          let s : variable a.lit ≡ variable b.lit = sym ea ∙ eqb-true _ _ t ∙ eb in
          let r = later_apart i j a b h (slice_get-get_or entries i z i_n) (slice_get-get_or entries j z jn) in
          ⊎_elim r.0 r.1 (same_variable a.lit b.lit s))

      below : (q : ℕ) → Contains (map (λ (e : Entry). variable e.lit) entries) q → q < variables
      below q c =
          let n : length (map (λ (e : Entry). variable e.lit) entries) ≡ length entries = length-map entries (λ (e : Entry). variable e.lit) in
          let h : c.0 < length (map (λ (e : Entry). variable e.lit) entries) = c.1 in
          let k : c.0 < length entries = omega arith in
          let z : Entry = record { lit = record { 0 = 0 }; reason = None } in
          let e : Entry = get_or entries c.0 z in
          let i : variable e.lit ≡ q = sym (get_or-map (λ (e : Entry). variable e.lit) entries c.0 z q k) ∙ c.2 in
          subst (λ m. m < variables) i (trail.each c.0 e (slice_get-get_or entries c.0 z k)).over
