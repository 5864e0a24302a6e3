-- The first seats take in one worker more.
use Rattle.std.specs.Prelude.{◌≡◌, ℕ, zero, suc, true, All, ◌+◌, ◌<◌, ◌≤◌, nat_lt, List, [], ◌∷◌, ◌++◌, length, Option, Some, slice_get, slice_index_or, IfOk, IfErr, Result, Ok, Err}
use Rattle.std.specs.List.{AllByRecursion, flat_map}
use Rattle.std.proofs.Common.{arith, refl, sym, ap, ◌∙◌, subst, ⊎_elim, append_assoc, length-append}
use Rattle.std.proofs.lemmas.Grind.{flat_map-append}
use Rattle.std.proofs.lemmas.List.{append-nil}
use Rattle.std.proofs.lemmas.Option.{none-some, same_Some}
use mathlib.Core.List.{IsPrefix}
use denote.Bor.{Bor}
use Rattle.sw_lists.proofs.Each.{each-weaker, each-append}
use Rattle.sw_lists.proofs.Places.{get_push_cases}
use Rattle.sw_logic.specs.declared.syntax.Formula.{Formula}
use Rattle.sw_claims.specs.declared.rule.ClaimView.{ClaimView}
use Rattle.sw_claims.specs.ClaimsRule.{fresh as fresh_claim}
use Rattle.sw_claims.specs.ClaimsSteps.{taken}
use Rattle.sw_log.specs.declared.entry.Entry.{Entry}
use Rattle.sw_log.specs.declared.rule.LogView.{LogView}
use Rattle.sw_log.specs.LogRule.{fresh as fresh_log}
use Rattle.sw_log.specs.LogSteps.{joined, longer_of, shorter_of, IsAlone}
use Rattle.sw_pool.specs.declared.pool.Pool.{Pool}
use Rattle.sw_core.specs.Machine.{Search, parts_in}
use Rattle.sw_hand.specs.declared.hand.Handed.{Handed}
use Rattle.sw_work.specs.declared.errors.BreadthError.{BreadthError}
use Rattle.sw_work.specs.declared.working.Worked.{Worked}
use Rattle.sw_work.specs.declared.working.Worked.TheVariants as worked
use Rattle.sw_work.specs.Works.{Gained, IsAloneAt, IsCause, IsOwnEntry, IsWorked, HasDrawn, seen_formulas}
use Rattle.sw_breadth.specs.declared.sharing.Shared.{Shared}
use Rattle.sw_breadth.specs.declared.sharing.Places.{Places}
use Rattle.sw_breadth.specs.declared.joining.Joined.{Joined}
use Rattle.sw_breadth.specs.declared.joining.Joined.TheVariants as came
use Rattle.sw_breadth.specs.declared.joining.Report.{Report}
use Rattle.sw_breadth.specs.Joins.{AreNew, AreSeats, AreFirst, AreReports, AreShared, AreWhole, HaveJoined, HasParts, IsClosable, IsJoined, MayClose, IsOwned, IsFresh, IsOwner, IsPlace, IsReport, IsShared, with_answer}
use Rattle.sw_breadth.proofs.Begins.{begins_itself, begins_through, both_begin}
use Rattle.sw_breadth.proofs.Stays.{cause_stays, own_entry, owned_stays, shared_stays}

-- the lists of two seats that are joined both begin what the first seat has seen then
pub seen_begin : (v w : LogView) → IsPrefix (shorter_of v.seen w.seen) (longer_of v.seen w.seen) → IsPrefix v.seen (joined v w).seen × IsPrefix w.seen (joined v w).seen
seen_begin v w p = both_begin (nat_lt (length v.seen) (length w.seen)) v.seen w.seen p

module _ (m : Search) (entries : List Entry) where
  pub owner_joins : (worker : ℕ) (v w : LogView) → worker < m.workers → IsPrefix v.seen (joined v w).seen → IsPrefix w.seen (joined v w).seen → IsOwner m entries v → Gained m worker (fresh_log entries) w → IsOwner m entries (joined v w)
  owner_joins worker v w lt pv pw o g =
      let own : w.own ≡ g.entries = ap (λ (u : LogView). u.own) g.is in
      record {
        begins = begins_through entries v.seen (joined v w).seen o.begins pv;
        more = o.more ++ g.entries;
        own_are = ap (λ l. l ++ w.own) o.own_are ∙ (append_assoc entries o.more w.own ∙ ap (λ l. entries ++ (o.more ++ l)) own);
        each = each-append (IsOwned m (joined v w).seen) o.more g.entries
            (each-weaker (IsOwned m v.seen) (IsOwned m (joined v w).seen) (λ e h. owned_stays m v.seen (joined v w).seen e pv h) o.more o.each)
            (each-weaker (IsOwnEntry m worker w.seen) (IsOwned m (joined v w).seen) (λ e h. owned_stays m w.seen (joined v w).seen e pw (own_entry m worker w.seen e lt h)) g.entries g.each);
      }

module _ (m : Search) (pool : Pool) (before since : ℕ) where
  shares_none : (formulas : List Formula) → AreShared m pool before since formulas []
  shares_none formulas i h e = absurd (none-some h e)

  shares_stay : (seen more : List Entry) (hs : List Handed) → IsPrefix seen more → AreShared m pool before since (seen_formulas m seen) hs → AreShared m pool before since (seen_formulas m more) hs
  shares_stay seen more hs p a i h e = shared_stays m pool before since seen more i h p (a i h e)

  shares_push : (seen : List Entry) (hs : List Handed) (h : Handed) → AreShared m pool before since (seen_formulas m seen) hs → IsShared m pool before since (seen_formulas m seen) (length hs) h → AreShared m pool before since (seen_formulas m seen) (hs ++ h ∷ [])
  shares_push seen hs h a s i x e =
      ⊎_elim (λ (k : slice_get hs i ≡ Some x). a i x k)
      (λ (k : (i ≡ length hs) × (x ≡ h)). subst (λ n. IsShared m pool before since (seen_formulas m seen) n x) (sym k.0) (subst (IsShared m pool before since (seen_formulas m seen) (length hs)) (sym k.1) s)) (get_push_cases hs h i x e)

module _ (m : Search) (budget : Option ℕ) (pool : Pool) (entries : List Entry) (before : ℕ) where
  abbrev Begun : ClaimView
  Begun = fresh_claim (length (parts_in m))

  whole_more : (done : ℕ) (c d : ClaimView) (v w : LogView) (hs : List Handed) (h : Handed) → IsPrefix v.seen (joined v w).seen → IsPrefix w.seen (joined v w).seen
      → AreWhole m pool entries before done c v hs → IsWorked m pool done before Begun d (fresh_log entries) w (worked.Done h) → AreWhole m pool entries before (done + 1) (taken c d) (joined v w) (hs ++ h ∷ [])
  whole_more done c d v w hs h pv pw a b =
      let drew = b.0 in
      let ended = drew.ended in
      let wrote = drew.wrote in
      let silent = a.silent in
      let late = (joined v w).seen in
      record {
        count = length-append hs (h ∷ []) ∙ ap (λ n. n + 1) a.count;
        drawn_are = ap (λ l. l ++ d.drawn) a.drawn_are ∙ (ap (λ l. flat_map (λ (x : Handed). x.drawn) hs ++ l) (drew.gained ∙ sym (append-nil h.drawn)) ∙ sym (flat_map-append (λ (x : Handed). x.drawn) hs (h ∷ [])));
        ended = λ _. omega (arith, ended);
        silent = omega (arith, wrote, silent);
        shares = shares_push m pool before (length entries) late hs h (shares_stay m pool before (length entries) v.seen late hs pv a.shares)
            (subst (λ n. IsShared m pool before (length entries) (seen_formulas m late) n h) (sym a.count)
            (shared_stays m pool before (length entries) w.seen late done h pw (record { share = b.1.share; timely = b.1.timely; tokens = b.1.tokens })));
      }

  pub answer_joins : (done : ℕ) (c d : ClaimView) (v w : LogView) (j : Joined) (a : Result Worked BreadthError) → IsPrefix v.seen (joined v w).seen → IsPrefix w.seen (joined v w).seen
      → IsJoined m pool budget entries before done c v j → IfOk a (IsWorked m pool done before Begun d (fresh_log entries) w) → IfErr a (IsCause m budget w.seen)
      → IsJoined m pool budget entries before (done + 1) (taken c d) (joined v w) (with_answer j a)
  answer_joins done c d v w (came.Whole hs) (Ok (worked.Done h)) pv pw is ok err = whole_more done c d v w hs h pv pw is ok
  answer_joins done c d v w (came.Whole hs) (Ok (worked.Stopped reason)) pv pw is ok err =
      let some = ok.0.some in let seen = ok.0.seen in let wrote = ok.0.wrote in let silent = is.silent in record { seen = omega (arith, some, seen); silent = omega (arith, wrote, silent) }
  answer_joins done c d v w (came.Whole hs) (Err e) pv pw is ok err = cause_stays m budget w.seen (joined v w).seen e pw err
  answer_joins done c d v w came.Stopped (Ok (worked.Done h)) pv pw is ok err =
      let wrote = ok.0.wrote in let seen = is.seen in let silent = is.silent in record { seen = omega (arith, seen); silent = omega (arith, wrote, silent) }
  answer_joins done c d v w came.Stopped (Ok (worked.Stopped reason)) pv pw is ok err =
      let wrote = ok.0.wrote in let seen = is.seen in let silent = is.silent in record { seen = omega (arith, seen); silent = omega (arith, wrote, silent) }
  answer_joins done c d v w came.Stopped (Err e) pv pw is ok err = cause_stays m budget w.seen (joined v w).seen e pw err
  answer_joins done c d v w (came.Failed f) a pv pw is ok err = cause_stays m budget v.seen (joined v w).seen f pv is

  -- before any was joined
  pub none_joined : (out : ℕ) (f : Places) → AreFirst (length (parts_in m)) f.log.view.seen out 0 f → f.log.view.seen ≡ entries → HaveJoined m pool budget entries before 0 out f (came.Whole [])
  none_joined out f a same = record {
    claim_first = a.claim_first;
    claim_out = a.claim_out;
    parts_are = a.parts_are;
    log_first = a.log_first;
    log_out = a.log_out;
    owner = record { begins = subst (IsPrefix entries) (sym same) (begins_itself entries); more = []; own_are = a.own_are ∙ (same ∙ sym (append-nil entries)); each = tt };
    answers = record { count = refl; drawn_are = a.undrawn; ended = λ h. absurd (omega arith); silent = a.silent; shares = shares_none m pool before (length entries) (seen_formulas m f.log.view.seen) };
  }

  -- the first seats, what was joined, and the reports that are left
  pub record Gathering (s : Shared) (rest : List Report) (f : Places) (j : Joined) : Type 0 where
    pub done : ℕ
    pub all : done + length rest ≡ m.workers
    pub seats : AreSeats s f
    pub reports : AreReports m budget pool s before entries done rest
    pub state : HaveJoined m pool budget entries before done (length rest) f j

  pub gathering_more : (s : Shared) (rest more : List Report) (r : Report) (f g : Places) (j : Joined) → rest ≡ r ∷ more → AreSeats s g → g.claim.view ≡ taken f.claim.view r.places.claim.view → g.log.view ≡ joined f.log.view r.places.log.view
      → IsPrefix (shorter_of f.log.view.seen r.places.log.view.seen) (longer_of f.log.view.seen r.places.log.view.seen) → Gathering s rest f j → Gathering s more g (with_answer j r.answer)
  gathering_more s rest more r f g j is seats claim log begins a =
      let v = f.log.view in let w = r.places.log.view in let c = f.claim.view in let d = r.places.claim.view in
      let both = seen_begin v w begins in
      let h = a.state in
      let counted : length rest ≡ length more + 1 = ap length is ∙ (let n : length (r ∷ more) ≡ length more + 1 = omega arith in n) in
      let these = subst (AreReports m budget pool s before entries a.done) is a.reports in
      let one = these.0 in
      let total = a.all in
      let out_claim = h.claim_out in let out_log = h.log_out in
      record {
        done = a.done + 1;
        all = omega (arith, total, counted);
        seats = seats;
        reports = these.1;
        state = record {
          claim_first = ap (λ (u : ClaimView). u.first) claim ∙ h.claim_first;
          claim_out = ap (λ (u : ClaimView). u.out) claim ∙ omega (arith, out_claim, counted);
          parts_are = ap (λ (u : ClaimView). u.parts) claim ∙ h.parts_are;
          log_first = ap (λ (u : LogView). u.first) log ∙ h.log_first;
          log_out = ap (λ (u : LogView). u.out) log ∙ omega (arith, out_log, counted);
          owner = subst (IsOwner m entries) (sym log) (owner_joins m entries a.done v w (omega (arith, total, counted)) both.0 both.1 h.owner one.gained);
          answers = subst (λ u. IsJoined m pool budget entries before (a.done + 1) u g.log.view (with_answer j r.answer)) (sym claim)
              (subst (λ u. IsJoined m pool budget entries before (a.done + 1) (taken c d) u (with_answer j r.answer)) (sym log)
              (answer_joins a.done c d v w j r.answer both.0 both.1 h.answers one.worked one.cause));
        };
      }

  -- the reports, by their places
  pub reports_of : (s : Shared) (k : ℕ) (rs : List Report) → ((i : ℕ) (d : Report) → i < length rs → IsReport m budget pool s before entries (k + i) (slice_index_or rs i d)) → AreReports m budget pool s before entries k rs
  reports_of s k [] h = tt
  reports_of s k (r ∷ rs) h =
      let here : k + 0 ≡ k = omega arith in (
        subst (λ n. IsReport m budget pool s before entries n r) here (h 0 r (omega arith)),
        reports_of s (k + 1) rs (λ i d lt. let n : k + suc i ≡ (k + 1) + i = omega arith in subst (λ x. IsReport m budget pool s before entries x (slice_index_or rs i d)) n (h (suc i) d (omega arith))),
      )

  -- what was joined may be closed
  pub closable : (w : Places) (j : Joined) → HaveJoined m pool budget entries before m.workers 0 w j → IsClosable m pool budget entries before w j
  closable w j h = record { parts_are = parts j; claims = claims j h.answers; log = (h.log_first, h.log_out); owner = h.owner; answers = h.answers }
    where
      parts : (j : Joined) → HasParts (length (parts_in m)) w.claim.view j
      parts (came.Whole hs) = h.parts_are
      parts came.Stopped = tt
      parts (came.Failed e) = tt

      claims : (j : Joined) → IsJoined m pool budget entries before m.workers w.claim.view w.log.view j → MayClose w.claim.view j
      claims (came.Whole hs) a = (h.claim_first, h.claim_out)
      claims came.Stopped a = ((h.claim_first, h.claim_out), a)
      claims (came.Failed e) a = tt

abbrev pub Place : Type 0
Place = Places × Bor Pool × Bor Shared

-- what is known of a place among the new ones
pub place_at : (s : Shared) (parts : ℕ) (entries : List Entry) (p : Pool) (places : List Place) (i : ℕ) (x : Place) → i < length places → slice_index_or places i x ≡ x
    → All (λ (y : Place). IsPlace s parts entries p y.1.now y.2.now y.0) places → IsPlace s parts entries p x.1.now x.2.now x.0
place_at s parts entries p places i x below is all = subst (λ (y : Place). IsPlace s parts entries p y.1.now y.2.now y.0) is (all i x below)

pub place_seen : (s : Shared) (parts : ℕ) (entries : List Entry) (p q : Pool) (z : Shared) (w : Places) → IsPlace s parts entries p q z w → w.log.view.seen ≡ entries
place_seen s parts entries p q z w is = ap (λ (v : LogView). v.seen) is.new.log_is

place_new : (s : Shared) (parts n : ℕ) (entries : List Entry) (p q : Pool) (z : Shared) (w : Places) → parts ≡ n → IsPlace s parts entries p q z w → IsFresh s n z w
place_new s parts n entries p q z w e is =
    subst (λ k. IsFresh s k z w) e
    (record { new = record { seats = is.new.seats; claim_is = is.new.claim_is; log_is = is.new.log_is ∙ ap fresh_log (sym (place_seen s parts entries p q z w is)) }; shared_is = is.shared_is })

pub places_new : (s : Shared) (parts n : ℕ) (entries : List Entry) (p : Pool) (places : List Place) → parts ≡ n → All (λ (y : Place). IsPlace s parts entries p y.1.now y.2.now y.0) places → All (λ (y : Place). IsFresh s n y.2.now y.0) places
places_new s parts n entries p places e all k d below = let x : Place = slice_index_or places k d in place_new s parts n entries p x.1.now x.2.now x.0 e (all k d below)

pub new_at : (places : List Place) (i : ℕ) (x : Place) → i < length places → slice_index_or places i x ≡ x → (P : Place → Type 0) → All P places → P x
new_at places i x below is P all = subst P is (all i x below)

-- one worker, on the first seats themselves
module _ (m : Search) (budget : Option ℕ) (pool : Pool) (before : ℕ) (f : Places) (w : Places) (single : m.workers ≡ 1) (alone : IsAloneAt m f.claim.view f.log.view) (own : f.log.view.own ≡ f.log.view.seen) (gained : Gained m 0 f.log.view w.log.view) where
  lone_owner : IsOwner m f.log.view.seen w.log.view
  lone_owner = record {
    begins = gained.begins;
    more = gained.entries;
    own_are = ap (λ (v : LogView). v.own) gained.is ∙ ap (λ l. l ++ gained.entries) own;
    each = each-weaker (IsOwnEntry m 0 w.log.view.seen) (IsOwned m w.log.view.seen) (λ e h. own_entry m 0 w.log.view.seen e (omega arith) h) gained.entries gained.each;
  }

  lone_log : IsAlone w.log.view
  lone_log = (ap (λ (v : LogView). v.first) gained.is ∙ alone.log.0, ap (λ (v : LogView). v.out) gained.is ∙ alone.log.1)

  pub lone_failed : (e : BreadthError) → IsCause m budget w.log.view.seen e → IsClosable m pool budget f.log.view.seen before w (came.Failed e)
  lone_failed e cause = record { parts_are = tt; claims = tt; log = lone_log; owner = lone_owner; answers = cause }

  pub lone_whole : (h : Handed) → IsWorked m pool 0 before f.claim.view w.claim.view f.log.view w.log.view (worked.Done h) → IsClosable m pool budget f.log.view.seen before w (came.Whole (h ∷ []))
  lone_whole h did =
      let drew = did.0 in
      let at_first : f.claim.view.first ≡ true = ap (λ (v : ClaimView). v.first) alone.claims in
      let at_out : f.claim.view.out ≡ 0 = ap (λ (v : ClaimView). v.out) alone.claims in
      let at_parts : f.claim.view.parts ≡ length (parts_in m) = ap (λ (v : ClaimView). v.parts) alone.claims in
      let at_drawn : f.claim.view.drawn ≡ [] = ap (λ (v : ClaimView). v.drawn) alone.claims in
      let at_wrote : f.claim.view.wrote ≡ 0 = ap (λ (v : ClaimView). v.wrote) alone.claims in
      record {
        parts_are = drew.parts ∙ at_parts;
        claims = (drew.first ∙ at_first, drew.out ∙ at_out);
        log = lone_log;
        owner = lone_owner;
        answers = record {
          count = sym single;
          drawn_are = drew.gained ∙ (ap (λ l. l ++ h.drawn) at_drawn ∙ sym (append-nil h.drawn));
          ended = λ _. drew.ended;
          silent = drew.wrote ∙ at_wrote;
          shares = λ i x e. only i x e;
        };
      }
    where
      mine : IsShared m pool before (length f.log.view.seen) (seen_formulas m w.log.view.seen) 0 h
      mine = record { share = did.1.share; timely = did.1.timely; tokens = did.1.tokens }

      only : (i : ℕ) (x : Handed) → slice_get (h ∷ []) i ≡ Some x → IsShared m pool before (length f.log.view.seen) (seen_formulas m w.log.view.seen) i x
      only zero x e = subst (IsShared m pool before (length f.log.view.seen) (seen_formulas m w.log.view.seen) 0) (same_Some h x e) mine
      only (suc i) x e = absurd (none-some x e)
