-- The first seat takes in one worker more.
use Rattle.std.specs.Prelude.{◌≡◌, ℕ, suc, ◌+◌, ◌<◌, ◌≤◌, List, [], ◌∷◌, ◌++◌, length, Option, Some, slice_get, slice_index_or, IfOk, IfErr, Result, Ok, Err}
use Rattle.std.proofs.Common.{arith, refl, sym, ap, ◌∙◌, subst, ⊎_elim, length-append}
use Rattle.std.proofs.lemmas.Grind.{flat_map-append}
use Rattle.std.proofs.lemmas.List.{append-nil}
use Rattle.std.proofs.lemmas.Option.{none-some}
use Rattle.atomic_table.specs.Seated.{TableId}
use Rattle.sw_lists.proofs.Places.{get_push_cases}
use Rattle.sw_logic.specs.declared.syntax.Formula.{Formula}
use Rattle.sw_claims.specs.declared.rule.ClaimView.{ClaimView}
use Rattle.sw_claims.specs.ClaimsRule.{fresh, opened}
use Rattle.sw_claims.specs.ClaimsSteps.{taken}
use Rattle.sw_claims.specs.Seats.{SeatValue}
use Rattle.sw_pool.specs.declared.pool.Pool.{Pool}
use Rattle.sw_core.specs.Machine.{Search, parts_in}
use Rattle.sw_hand.specs.declared.hand.Handed.{Handed}
use Rattle.sw_hand.specs.Hands.{IsHanded}
use Rattle.sw_seek.specs.declared.errors.FinishError.{FinishError}
use Rattle.sw_seek.specs.declared.seeking.Sought.{Sought}
use Rattle.sw_seek.specs.declared.seeking.Sought.TheVariants as sought
use Rattle.sw_seek.specs.Seeking.{IsCause, IsSought}
use Rattle.sw_finish.specs.declared.joining.Joined.{Joined}
use Rattle.sw_finish.specs.declared.joining.Joined.TheVariants as joined
use Rattle.sw_finish.specs.declared.joining.Report.{Report}
use Rattle.sw_finish.specs.Joins.{AreJoined, AreReports, AreWhole, HaveJoined, IsFirst, IsFirstOfOne, IsFound, IsLast, IsOver, IsReport, IsShareUnder, IsUnused, with_answer}
use Rattle.sw_finish.specs.Shares.{all_drawn}

drawn_push : (hs : List Handed) (h : Handed) → all_drawn (hs ++ h ∷ []) ≡ all_drawn hs ++ h.drawn
drawn_push hs h = flat_map-append (λ (x : Handed). x.drawn) hs (h ∷ []) ∙ ap (λ l. all_drawn hs ++ l) (append-nil h.drawn)

abbrev pub Answer : Type 0
Answer = Result Sought FinishError

-- more was drawn, until the end, and no reason written
pub record HasMore (c d : ClaimView) (drawn : List ℕ) : Type 0 where
  pub gained : d.drawn ≡ c.drawn ++ drawn
  pub ended : 1 ≤ d.ends
  pub wrote : d.wrote ≡ c.wrote
  pub seen : c.seen ≤ d.seen

module _ (m : Search) (g : List Formula) (budget : Option ℕ) (pool : Pool) where
  -- what one answer adds to what the first seat knows
  abbrev pub Adds : ℕ → ClaimView → ClaimView → Answer → Type 0
  Adds worker c d (Ok (sought.Joins body r rs)) = IsFound m g budget body r rs
  Adds worker c d (Ok (sought.Done h)) = HasMore c d h.drawn × IsHanded m pool worker 0 (length g) g h
  Adds worker c d (Ok (sought.Stopped reason)) = (1 ≤ d.seen) × (d.wrote ≡ c.wrote)
  Adds worker c d (Err e) = IsCause m g budget e

  adds_taken : (worker n : ℕ) (c d : ClaimView) (a : Answer) → IfOk a (IsSought m pool worker g budget (fresh n) d) → IfErr a (IsCause m g budget)
      → Adds worker c (taken c d) a
  adds_taken worker n c d (Ok (sought.Joins body r rs)) ok err = record { class = ok.0.class; joins = ok.0.joined }
  adds_taken worker n c d (Ok (sought.Done h)) ok err =
      let ended = ok.0.ended in
      let wrote = ok.0.wrote in
      (record { gained = ap (λ l. c.drawn ++ l) ok.0.gained; ended = omega (arith, ended); wrote = omega (arith, wrote); seen = omega arith }, ok.1)
  adds_taken worker n c d (Ok (sought.Stopped reason)) ok err = let some = ok.0.some in let seen = ok.0.seen in let wrote = ok.0.wrote in
      (omega (arith, some, seen), omega (arith, wrote))
  adds_taken worker n c d (Err e) ok err = err

  adds_alone : (worker n : ℕ) (d : ClaimView) (a : Answer) → IfOk a (IsSought m pool worker g budget (opened n 0) d) → IfErr a (IsCause m g budget)
      → Adds worker (opened n 0) d a
  adds_alone worker n d (Ok (sought.Joins body r rs)) ok err = record { class = ok.0.class; joins = ok.0.joined }
  adds_alone worker n d (Ok (sought.Done h)) ok err = (record { gained = ok.0.gained; ended = ok.0.ended; wrote = ok.0.wrote; seen = omega arith }, ok.1)
  adds_alone worker n d (Ok (sought.Stopped reason)) ok err = let some = ok.0.some in let seen = ok.0.seen in (omega (arith, some, seen), ok.0.wrote)
  adds_alone worker n d (Err e) ok err = err

  -- ---- what was joined
  share_under : (worker : ℕ) (h : Handed) → IsHanded m pool worker 0 (length g) g h → IsShareUnder m pool g worker h
  share_under worker h a = record { share = a.share [] refl; timely = a.timely [] refl; tokens = a.tokens }

  whole_more : (done : ℕ) (c d : ClaimView) (shares : List Handed) (h : Handed) → AreWhole m pool g done c shares → HasMore c d h.drawn
      → IsHanded m pool done 0 (length g) g h → AreWhole m pool g (done + 1) d (shares ++ h ∷ [])
  whole_more done c d shares h w more a =
      let wrote = more.wrote in
      let silent = w.silent in
      record {
        count = length-append shares (h ∷ []) ∙ ap (λ n. n + 1) w.count;
        drawn_are = more.gained ∙ (ap (λ l. l ++ h.drawn) w.drawn_are ∙ sym (drawn_push shares h));
        ended = λ _. more.ended;
        silent = omega (arith, wrote, silent);
        each = λ i s e. ⊎_elim (λ (k : slice_get shares i ≡ Some s). w.each i s k)
            (λ (k : (i ≡ length shares) × (s ≡ h)). subst (IsShareUnder m pool g i) (sym k.1)
            (subst (λ n. IsShareUnder m pool g n h) (sym (k.0 ∙ w.count)) (share_under done h a)))
            (get_push_cases shares h i s e);
      }

  pub answer_joins : (done : ℕ) (c d : ClaimView) (j : Joined) (a : Answer) → AreJoined m pool g budget done c j → Adds done c d a
      → AreJoined m pool g budget (done + 1) d (with_answer j a)
  answer_joins done c d (joined.Found body r rs) a is adds = is
  answer_joins done c d (joined.Failed f) (Ok (sought.Joins body r rs)) is adds = adds
  answer_joins done c d (joined.Failed f) (Ok (sought.Done h)) is adds = is
  answer_joins done c d (joined.Failed f) (Ok (sought.Stopped reason)) is adds = is
  answer_joins done c d (joined.Failed f) (Err e) is adds = is
  answer_joins done c d joined.Stopped (Ok (sought.Joins body r rs)) is adds = adds
  answer_joins done c d joined.Stopped (Ok (sought.Done h)) is adds =
      let s = is.seen in let later = adds.0.seen in let wrote = adds.0.wrote in let silent = is.silent in
      record { seen = omega (arith, s, later); silent = omega (arith, wrote, silent) }
  answer_joins done c d joined.Stopped (Ok (sought.Stopped reason)) is adds = let wrote = adds.1 in let silent = is.silent in
      record { seen = adds.0; silent = omega (arith, wrote, silent) }
  answer_joins done c d joined.Stopped (Err e) is adds = adds
  answer_joins done c d (joined.Whole w) (Ok (sought.Joins body r rs)) is adds = adds
  answer_joins done c d (joined.Whole w) (Ok (sought.Done h)) is adds = whole_more done c d w h is adds.0 adds.1
  answer_joins done c d (joined.Whole w) (Ok (sought.Stopped reason)) is adds = let wrote = adds.1 in let silent = is.silent in
      record { seen = adds.0; silent = omega (arith, wrote, silent) }
  answer_joins done c d (joined.Whole w) (Err e) is adds = adds

  none_each : (i : ℕ) (s : Handed) → slice_get [] i ≡ Some s → IsShareUnder m pool g i s
  none_each i s e = absurd (none-some s e)

  -- before any was joined
  pub none_joined : (c : ClaimView) → IsUnused c → AreJoined m pool g budget 0 c (joined.Whole [])
  none_joined c a = record { count = refl; drawn_are = a.undrawn; ended = λ h. absurd (omega arith); silent = a.silent; each = none_each }

  -- ---- one worker alone
  first_of_one : (d : ClaimView) (a : Answer) → IfOk a (IsSought m pool 0 g budget (opened (length (parts_in m)) 0) d)
      → IsFirstOfOne m g (with_answer (joined.Whole []) a)
  first_of_one d (Ok (sought.Joins body r rs)) ok = λ one. ok.1 refl
  first_of_one d (Ok (sought.Done h)) ok = tt
  first_of_one d (Ok (sought.Stopped reason)) ok = tt
  first_of_one d (Err e) ok = tt

  last_of_one : (claims : TableId) (s : SeatValue) (a : Answer) → s.object ≡ claims → IfOk a (IsSought m pool 0 g budget (opened (length (parts_in m)) 0) s.view)
      → IsLast claims (length (parts_in m)) s (with_answer (joined.Whole []) a)
  last_of_one claims s (Ok (sought.Joins body r rs)) e ok = tt
  last_of_one claims s (Ok (sought.Done h)) e ok = record { object_is = e; first = ok.0.first; out_are = ok.0.out; parts_are = ok.0.parts }
  last_of_one claims s (Ok (sought.Stopped reason)) e ok = absurd (ok.1 refl)
  last_of_one claims s (Err x) e ok = tt

  pub over_alone : (claims : TableId) (s : SeatValue) (a : Answer) → m.workers ≡ 1 → s.object ≡ claims
      → IfOk a (IsSought m pool 0 g budget (opened (length (parts_in m)) 0) s.view) → IfErr a (IsCause m g budget)
      → IsOver m pool g budget claims s (with_answer (joined.Whole []) a)
  over_alone claims s a one e ok err =
      let n = length (parts_in m) in
      record {
        answers = subst (λ k. AreJoined m pool g budget k s.view (with_answer (joined.Whole []) a)) (sym one)
            (answer_joins 0 (opened n 0) s.view (joined.Whole []) a (none_joined (opened n 0) (record { undrawn = refl; silent = refl }))
            (adds_alone 0 n s.view a ok err));
        in_order = first_of_one s.view a ok;
        last = last_of_one claims s a e ok;
      }

  -- ---- several workers
  first_of_many : (j : Joined) → (m.workers ≡ 1 → ⊥) → IsFirstOfOne m g j
  first_of_many (joined.Found body r rs) many = λ one. absurd (many one)
  first_of_many (joined.Failed e) many = tt
  first_of_many joined.Stopped many = tt
  first_of_many (joined.Whole w) many = tt

  last_of_many : (claims : TableId) (s : SeatValue) (j : Joined) → IsFirst claims (length (parts_in m)) 0 s → IsLast claims (length (parts_in m)) s j
  last_of_many claims s (joined.Found body r rs) f = tt
  last_of_many claims s (joined.Failed e) f = tt
  last_of_many claims s joined.Stopped f = f
  last_of_many claims s (joined.Whole w) f = f

  pub over_together : (claims : TableId) (s : SeatValue) (j : Joined) → (m.workers ≡ 1 → ⊥) → HaveJoined m pool g budget claims m.workers 0 s j
      → IsOver m pool g budget claims s j
  over_together claims s j many h = record { answers = h.answers; in_order = first_of_many j many; last = last_of_many claims s j h.seat }

  -- the first seat, what was joined, and the reports that are left
  pub record Gathering (claims : TableId) (rest : List Report) (s : SeatValue) (j : Joined) : Type 0 where
    pub done : ℕ
    pub all : done + length rest ≡ m.workers
    pub reports : AreReports m g budget pool claims done rest
    pub state : HaveJoined m pool g budget claims done (length rest) s j

  pub gathering_more : (claims : TableId) (rest more : List Report) (r : Report) (s t : SeatValue) (j k : Joined) → k ≡ with_answer j r.answer → rest ≡ r ∷ more
      → t ≡ record s { view = taken s.view r.seat.view } → Gathering claims rest s j → Gathering claims more t k
  gathering_more claims rest more r s t j k came is seat a =
      let counted : length rest ≡ length more + 1 = ap (λ (l : List Report). length l) is ∙ (let n : length (r ∷ more) ≡ length more + 1 = omega arith in n) in
      let these = subst (AreReports m g budget pool claims a.done) is a.reports in
      let total = a.all in
      let f = a.state.seat in
      let out = f.out_are in
      let next : HaveJoined m pool g budget claims (a.done + 1) (length more) (record s { view = taken s.view r.seat.view }) (with_answer j r.answer) = record {
        seat = record { object_is = f.object_is; first = f.first; out_are = omega (arith, out, counted); parts_are = f.parts_are };
        answers = answer_joins a.done s.view (taken s.view r.seat.view) j r.answer a.state.answers
            (adds_taken a.done (length (parts_in m)) s.view r.seat.view r.answer these.0.sought these.0.cause);
      } in
      record {
        done = a.done + 1;
        all = omega (arith, total, counted);
        reports = these.1;
        state = subst (HaveJoined m pool g budget claims (a.done + 1) (length more) t) (sym came)
            (subst (λ u. HaveJoined m pool g budget claims (a.done + 1) (length more) u (with_answer j r.answer)) (sym seat) next);
      }

  -- the reports, by their places
  pub reports_of : (claims : TableId) (k : ℕ) (rs : List Report) → ((i : ℕ) (d : Report) → i < length rs
      → IsReport m g budget pool claims (k + i) (slice_index_or rs i d)) → AreReports m g budget pool claims k rs
  reports_of claims k [] h = tt
  reports_of claims k (r ∷ rs) h =
      let here : k + 0 ≡ k = omega arith in (
        subst (λ n. IsReport m g budget pool claims n r) here (h 0 r (omega arith)),
        reports_of claims (k + 1) rs (λ i d lt. let n : k + suc i ≡ (k + 1) + i = omega arith in
            subst (λ x. IsReport m g budget pool claims x (slice_index_or rs i d)) n (h (suc i) d (omega arith))),
      )

  pub gathering_begins : (claims : TableId) (rest reports : List Report) (count : ℕ) (s : SeatValue) (j : Joined) → j ≡ joined.Whole []
      → rest ≡ reports → count ≡ length reports → count ≡ m.workers → IsFirst claims (length (parts_in m)) count s → IsUnused s.view
      → AreReports m g budget pool claims 0 reports → Gathering claims rest s j
  gathering_begins claims rest reports count s j came is long all first unused these =
      let same : length rest ≡ length reports = ap (λ (l : List Report). length l) is in
      let n : count ≡ length rest = long ∙ sym same in
      record {
        done = 0;
        all = omega (arith, same, long, all);
        reports = subst (AreReports m g budget pool claims 0) (sym is) these;
        state = record {
          seat = subst (λ k. IsFirst claims (length (parts_in m)) k s) n first;
          answers = subst (AreJoined m pool g budget 0 s.view) (sym came) (none_joined s.view unused);
        };
      }
