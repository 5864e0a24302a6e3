-- The steps of a round of joined workers, of all rounds, and Close are founded.
use Rattle.std.specs.Prelude.{◌≡◌, ℕ, zero, suc, ◌+◌, ◌-◌, ◌<◌, ◌≤◌, nat_lt, List, [], ◌∷◌, ◌++◌, map, length, take, drop, replicate, Some, None, slice_get}
use Rattle.std.specs.List.{AllByRecursion, flat_map}
use Rattle.std.proofs.Common.{refl, arith, sym, ap, subst, ◌∙◌, append_assoc, length-append, inl, inr}
use Rattle.std.proofs.lemmas.Bool.{cases_lt, cond-true, cond-false, lt-ltb, le-ltb}
use Rattle.std.proofs.lemmas.List.{length-map}
use Rattle.std.proofs.lemmas.Option.{none-some, same_Some, slice_get_within}
use Rattle.std.proofs.Math.Seq.{take-append_seam, drop-append_seam}
use Rattle.sw_logic.specs.declared.syntax.Formula.{Formula}
use Rattle.sw_lists.proofs.Each.{each-both, each-weaker, each-any}
use Rattle.sw_filter.specs.declared.filter.Filter.{Filter}
use Rattle.sw_log.specs.declared.entry.Entry.{Entry}
use Rattle.sw_core.specs.declared.record.Settled.{Settled}
use Rattle.sw_core.specs.declared.steps.Step.TheVariants.{Begin, Close}
use Rattle.sw_core.specs.Machine.{Search, Board, Part, IsDone, parts_in, start, after}
use Rattle.sw_core.specs.Records.{times, draws_of, entry_steps, publish_step, settle_steps, round_steps, rounds_steps}
use Rattle.sw_core.specs.Gathered.{Share, Outcome, filters_of, formulas_of, drawn_of, kept_of, log_after, filters_after, IsShareAmong, IsOutcome, once_below, settled_of, round_of, rounds_of, IsLiveBy, AreOutcomes, GatheredIsFounded}
use Rattle.sw_core.proofs.Lists.{each_got}
use Rattle.sw_core.proofs.Leads.{Leads, leads_none, leads_step, leads_append, At, at_weaker, entries_lead, publishes_lead}
use Rattle.sw_core.proofs.Drawing.{times_over, times-over, owner, times_in, owner_is, AreHanded, AtDrawn, draws_lead}
use Rattle.sw_core.proofs.Settling.{parts_of, Settles, Waits, AreWaiting, settles_lead}
use Rattle.sw_core.proofs.Shares.{Fits, Owns, AreShares, shares_settle, shares_publish, settled_parts}

-- no part is in a hand
abbrev Free : List Part → Type 0
Free ps = (k : ℕ) (part : Part) → slice_get ps k ≡ Some part → part.holders ≡ []

flat_map-map : (shares : List Share) → flat_map (λ ns. ns) (drawn_of shares) ≡ flat_map (λ (s : Share). s.drawn) shares
flat_map-map [] = refl
flat_map-map (s ∷ ss) = ap (λ l. s.drawn ++ l) (flat_map-map ss)

got_map : {X Y : Type 0} (f : X → Y) (xs : List X) (k : ℕ) (x : X) → slice_get xs k ≡ Some x → slice_get (map f xs) k ≡ Some (f x)
got_map f [] k x e = absurd (none-some x e)
got_map f (y ∷ ys) zero x e = ap (λ z. Some (f z)) (same_Some y x e)
got_map f (y ∷ ys) (suc k) x e = got_map f ys k x e

module _ (m : Search) (g : List Formula) (fs : List Filter) (o : Outcome) (h : IsOutcome m g fs o) (Q : Settled → Type 0) (facts : AllByRecursion Q (settled_of o.shares)) where
  abbrev own : ℕ → ℕ
  own = owner (drawn_of o.shares)

  abbrev total : ℕ
  total = length (parts_in m)

  abbrev settled : List Settled
  settled = settled_of o.shares

  once : (x : ℕ) → times_over x (drawn_of o.shares) ≡ once_below x total
  once x = sym (times-over x (drawn_of o.shares)) ∙ (ap (times x) (flat_map-map o.shares) ∙ h.once x)

  few : length (drawn_of o.shares) ≡ m.workers
  few = length-map o.shares (λ (s : Share). s.drawn) ∙ h.workers

  all : 0 + length o.shares ≡ m.workers
  all = omega (arith, h.workers)

  shares : AreShares m (log_after m g o) (filters_after fs o) own 0 o.shares
  shares j share at = let e : j ≡ 0 + j = omega arith in subst (λ i. IsShareAmong m (filters_after fs o) (log_after m g o) i share) e (h.shares j share at)

  owns : Owns m (log_after m g o) (filters_after fs o) own 0 o.shares
  owns j share at x here = elim (cases_lt x total) [
    | inl lt ↦
        let one : times_over x (drawn_of o.shares) ≡ 1 = once x ∙ cond-true (nat_lt x total) 1 0 (lt-ltb x total lt) in
        let is : own x ≡ j = owner_is x j (drawn_of o.shares) share.drawn (got_map (λ (s : Share). s.drawn) o.shares j share at) here one in
        (omega arith, lt)
    | inr le ↦
        let none : times_over x (drawn_of o.shares) ≡ 0 = once x ∙ cond-false (nat_lt x total) 1 0 (le-ltb x total le) in
        let some : times x share.drawn ≤ times_over x (drawn_of o.shares) = times_in x j (drawn_of o.shares) share.drawn (got_map (λ (s : Share). s.drawn) o.shares j share at) in
        absurd (omega arith)
  ]

  settles : AllByRecursion (Settles m (log_after m g o) (filters_after fs o) own Q) settled
  settles =
      each-weaker (λ x. Fits m (log_after m g o) (filters_after fs o) own x × Q x) (Settles m (log_after m g o) (filters_after fs o) own Q)
      (λ x a. record { within = a.0.within; worker = a.0.worker; owned = a.0.owned; under = a.0.under; places = a.0.places; good = a.0.good; fact = a.1 }) settled
      (each-both (Fits m (log_after m g o) (filters_after fs o) own) Q settled (shares_settle m (log_after m g o) (filters_after fs o) own 0 o.shares all shares owns) facts)

  parts_are : parts_of settled ≡ flat_map (λ (s : Share). s.drawn) o.shares
  parts_are = settled_parts o.shares (λ j s at. (h.shares j s at).in_order)

  wait : (ps : List Part) → length ps ≡ total → AreHanded own total ps → AreWaiting own Q settled ps
  wait ps e handed k part at =
      let within : k < length ps = slice_get_within ps k part at in
      let lt : k < total = omega arith in
      Waits.pending (ap (times k) parts_are ∙ (h.once k ∙ cond-true (nat_lt k total) 1 0 (lt-ltb k total lt))) ((handed k part at).held lt)

  begun : (s : Board) → At m g fs Free s → AtDrawn m g fs own 0 (after m s Begin)
  begun s a = record {
    at = record {
      log_is = a.log_is;
      filters_are = a.filters_are;
      running = a.running;
      seats = a.seats;
      count = a.count;
      parts_are = λ k part at. record { held = λ lt. absurd (omega arith); free = λ le. a.parts_are k part at };
    };
    drawn_are = refl;
  }

  abbrev Ended : Board → Type 0
  Ended = At m (log_after m g o) (filters_after fs o) (AreWaiting own Q [])

  pub round_leads : (s : Board) (log : ℕ) → At m g fs Free s → Leads m s (round_steps o.entries (round_of log o)) Ended
  round_leads s log a =
      let draws = draws_of (drawn_of o.shares) in
      let looks = flat_map entry_steps o.entries in
      let publishes = map publish_step (kept_of o.shares) in
      let ends = flat_map settle_steps settled in
      leads_step m s Begin (draws ++ (looks ++ (publishes ++ ends))) Ended
      (record { accepted = record { running = a.running; worker = tt; may = tt }; means = tt })
      (leads_append m (At m g fs (AreHanded own total)) Ended draws (looks ++ (publishes ++ ends)) (after m s Begin)
      (draws_lead m g fs (drawn_of o.shares) few once (after m s Begin) (begun s a))
      (λ t b. leads_append m (At m (log_after m g o) fs (AreHanded own total)) Ended looks (publishes ++ ends) t
      (entries_lead m (AreHanded own total) g fs o.entries t b h.entries)
      (λ u c. leads_append m (At m (log_after m g o) (filters_after fs o) (AreHanded own total)) Ended publishes ends u
      (publishes_lead m (AreHanded own total) (log_after m g o) fs (kept_of o.shares) u c (shares_publish m (log_after m g o) (filters_after fs o) 0 o.shares all shares))
      (λ v d. settles_lead m (log_after m g o) (filters_after fs o) own Q settled v settles
      (at_weaker m (log_after m g o) (filters_after fs o) (AreHanded own total) (AreWaiting own Q settled) v (wait v.parts) d)))))

-- a part that waits for nothing is done
free_of : (own : ℕ → ℕ) (Q : Settled → Type 0) (k : ℕ) (part : Part) → Waits own Q [] k part → part.holders ≡ []
free_of own Q k part (Waits.pending one held) = absurd (omega arith)
free_of own Q k part (Waits.done none free x last q) = free

done_of : (m : Search) (g : List Formula) (fs : List Filter) (own : ℕ → ℕ) (k : ℕ) (part : Part) → Waits own (IsLiveBy m g fs) [] k part → IsDone m g fs part
done_of m g fs own k part (Waits.pending one held) = absurd (omega arith)
done_of m g fs own k part (Waits.done none free x last q) = record { free = free; settled = x; last = last; live = q }

abbrev Any : Board → Type 0
Any s = Unit {0}

close_leads : (m : Search) (g : List Formula) (fs : List Filter) (own : ℕ → ℕ) (s : Board) → At m g fs (AreWaiting own (IsLiveBy m g fs) []) s → Leads m s (Close ∷ []) Any
close_leads m g fs own s a =
    let done : AllByRecursion (IsDone m g fs) s.parts = each_got (IsDone m g fs) s.parts (λ k part at. done_of m g fs own k part (a.parts_are k part at)) in
    leads_step m s Close [] Any
    (record {
      accepted = record {
        running = a.running;
        worker = tt;
        may = subst (λ l. AllByRecursion (IsDone m l s.filters) s.parts) (sym a.log_is) (subst (λ l. AllByRecursion (IsDone m g l) s.parts) (sym a.filters_are) done);
      };
      means = tt;
    })
    (leads_none m (after m s Close) Any tt)

-- the entries of the first round
front_is : (log : ℕ) (es rest : List Entry) → take ((log + length es) - log) (es ++ rest) ≡ es
front_is log es rest = let e : (log + length es) - log ≡ length es = omega arith in ap (λ n. take n (es ++ rest)) e ∙ take-append_seam es rest

rest_is : (log : ℕ) (es rest : List Entry) → drop ((log + length es) - log) (es ++ rest) ≡ rest
rest_is log es rest = let e : (log + length es) - log ≡ length es = omega arith in ap (λ n. drop n (es ++ rest)) e ∙ drop-append_seam es rest

abbrev entries_of : List Outcome → List Entry
entries_of os = flat_map (λ (o : Outcome). o.entries) os

-- one round and what comes after it
first_leads : (m : Search) (g : List Formula) (fs : List Filter) (o : Outcome) (os : List Outcome) (Q : Settled → Type 0) (s : Board) → At m g fs Free s → IsOutcome m g fs o → AllByRecursion Q (settled_of o.shares)
    → ((t : Board) → At m (log_after m g o) (filters_after fs o) (AreWaiting (owner (drawn_of o.shares)) Q []) t
    → Leads m t (rounds_steps (length g + length o.entries) (entries_of os) (rounds_of (length g + length o.entries) os) ++ Close ∷ []) Any)
    → Leads m s (rounds_steps (length g) (entries_of (o ∷ os)) (rounds_of (length g) (o ∷ os)) ++ Close ∷ []) Any
first_leads m g fs o os Q s a h facts f =
    let at = length g + length o.entries in
    let later = rounds_of at os in
    let round = round_of at o in
    let now : Leads m s (round_steps o.entries round ++ (rounds_steps at (entries_of os) later ++ Close ∷ [])) Any =
    leads_append m (At m (log_after m g o) (filters_after fs o) (AreWaiting (owner (drawn_of o.shares)) Q [])) Any (round_steps o.entries round) (rounds_steps at (entries_of os) later ++ Close ∷ []) s
    (round_leads m g fs o h Q facts s at a) f in
    let first : o.entries ≡ take (at - length g) (o.entries ++ entries_of os) = sym (front_is (length g) o.entries (entries_of os)) in
    let others : entries_of os ≡ drop (at - length g) (o.entries ++ entries_of os) = sym (rest_is (length g) o.entries (entries_of os)) in
    let cut : Leads m s ((round_steps (take (at - length g) (o.entries ++ entries_of os)) round ++ rounds_steps at (drop (at - length g) (o.entries ++ entries_of os)) later) ++ Close ∷ []) Any =
    subst (λ es. Leads m s ((round_steps es round ++ rounds_steps at (drop (at - length g) (o.entries ++ entries_of os)) later) ++ Close ∷ []) Any) first
    (subst (λ es. Leads m s ((round_steps o.entries round ++ rounds_steps at es later) ++ Close ∷ []) Any) others
    (subst (λ xs. Leads m s xs Any) (sym (append_assoc (round_steps o.entries round) (rounds_steps at (entries_of os) later) (Close ∷ []))) now)) in
    cut

rounds_lead : (m : Search) (g : List Formula) (fs : List Filter) (os : List Outcome) (s : Board) → At m g fs Free s → AreOutcomes m g fs os
    → Leads m s (rounds_steps (length g) (entries_of os) (rounds_of (length g) os) ++ Close ∷ []) Any
rounds_lead m g fs [] s a h = absurd h
rounds_lead m g fs (o ∷ []) s a h =
    first_leads m g fs o [] (IsLiveBy m (log_after m g o) (filters_after fs o)) s a h.0 h.1
    (λ t b. close_leads m (log_after m g o) (filters_after fs o) (owner (drawn_of o.shares)) t b)
rounds_lead m g fs (o ∷ p ∷ os) s a h =
    let log_size : length (log_after m g o) ≡ length g + length o.entries = length-append g (formulas_of m o.entries) ∙ ap (λ n. length g + n) (length-map o.entries _) in
    first_leads m g fs o (p ∷ os) (λ _. Unit {0}) s a h.0 (each-any (λ _. Unit {0}) (λ x. tt) (settled_of o.shares))
    (λ t b.
    subst (λ n. Leads m t (rounds_steps n (entries_of (p ∷ os)) (rounds_of n (p ∷ os)) ++ Close ∷ []) Any) log_size
    ((rounds_lead m (log_after m g o) (filters_after fs o) (p ∷ os) t
    (at_weaker m (log_after m g o) (filters_after fs o) (AreWaiting (owner (drawn_of o.shares)) (λ _. Unit {0}) []) Free t (λ e w k part at. free_of (owner (drawn_of o.shares)) (λ _. Unit {0}) k part (w k part at)) b) h.1)))

none_held : (parts : List (List (List ℕ))) → Free (map (λ _. let p : Part = record { holders = []; last = None } in p) parts)
none_held [] k part e = absurd (none-some part e)
none_held (x ∷ xs) zero part e = sym (ap (λ (p : Part). p.holders) (same_Some (record { holders = []; last = None }) part e))
none_held (x ∷ xs) (suc k) part e = none_held xs k part e

length-replicated : (n : ℕ) → length {A = ℕ} (replicate n 0) ≡ n
length-replicated zero = refl
length-replicated (suc n) = ap suc (length-replicated n)

pub gathered_is_founded : GatheredIsFounded
gathered_is_founded m opening os h =
    (rounds_lead m opening [] os (start m opening) (record {
      log_is = refl;
      filters_are = refl;
      running = refl;
      seats = length-replicated m.workers;
      count = length-map (parts_in m) (λ _. record { holders = []; last = None });
      parts_are = none_held (parts_in m);
    }) h).founded
