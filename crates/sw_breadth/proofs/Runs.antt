-- One round more: the rounds so far, and the record once it was the last.
use Rattle.std.specs.Prelude.{◌≡◌, ℕ, zero, suc, ◌+◌, ◌<◌, ◌≤◌, List, [], ◌∷◌, ◌++◌, map, length, Some, slice_get}
use Rattle.std.specs.List.{AllByRecursion, flat_map}
use Rattle.std.proofs.Common.{refl, arith, sym, ap, ◌∙◌, subst, append_assoc, length-append}
use Rattle.std.proofs.lemmas.Grind.{flat_map-append}
use Rattle.std.proofs.lemmas.List.{append-nil, map-append, length-map}
use Rattle.std.proofs.lemmas.Slice.Zip.{AllZip-long}
use Rattle.sw_lists.proofs.Each.{each-append}
use Rattle.sw_logic.specs.declared.syntax.Formula.{Formula}
use Rattle.sw_filter.specs.declared.filter.Filter.{Filter}
use Rattle.sw_log.specs.declared.entry.Entry.{Entry}
use Rattle.sw_pool.specs.declared.pool.Pool.{Pool}
use Rattle.sw_pool.specs.declared.pool.Seen.{Seen}
use Rattle.sw_pool.specs.Pools.{IsShown, filter_of}
use Rattle.sw_core.specs.declared.record.Kept.{Kept}
use Rattle.sw_core.specs.declared.record.Record.{Record}
use Rattle.sw_core.specs.declared.record.Round.{Round}
use Rattle.sw_core.specs.Machine.{Search, formula_in, parts_in}
use Rattle.sw_core.specs.Records.{times}
use Rattle.sw_core.specs.Gathered.{AreGained, AreOutcomes, IsLiveBy, IsOutcome, IsShareAmong, Outcome, Share, filters_after, filters_of, formulas_of, kept_of, log_after, once_below, round_of, rounds_of, settled_of}
use Rattle.sw_core.proofs.Lists.{each_got}
use Rattle.sw_gather.proofs.Shares.{AreMergedShares, drawn_same, live_same, shares_among}
use Rattle.sw_gather.specs.Gathers.{HasTokens, shown_by}
use Rattle.sw_hand.specs.declared.hand.Handed.{Handed}
use Rattle.sw_breadth.specs.Joins.{IsWholeRound}
use Rattle.sw_breadth.specs.Records.{AreRounds, HasRound, HaveRun, IsLiveRound, entries_of, kept_by}
use Rattle.sw_breadth.specs.Rounds.{IsGathered}
use Rattle.sw_breadth.proofs.Earns.{gained_on}
use Rattle.sw_breadth.proofs.Ends.{Listed}

-- the records of rounds, with one more
rounds_push : (log : ℕ) (os : List Outcome) (o : Outcome) → rounds_of log (os ++ o ∷ []) ≡ rounds_of log os ++ round_of ((log + length (entries_of os)) + length o.entries) o ∷ []
rounds_push log [] o =
    let l : log + length o.entries ≡ (log + 0) + length o.entries = omega arith in
    ap (λ n. round_of n o ∷ []) l
rounds_push log (p ∷ os) o =
    let e : length (entries_of (p ∷ os)) ≡ length p.entries + length (entries_of os) = length-append p.entries (entries_of os) in
    let l : ((log + length p.entries) + length (entries_of os)) + length o.entries ≡ (log + length (entries_of (p ∷ os))) + length o.entries = omega (arith, e) in
    let first = round_of (log + length p.entries) p in
    let rest = rounds_of (log + length p.entries) os in
    ap (λ rs. first ∷ rs) (rounds_push (log + length p.entries) os o) ∙ ap (λ n. first ∷ (rest ++ round_of n o ∷ [])) l

module _ (m : Search) where
  -- the list and the filters after some rounds
  abbrev list_after : List Formula → List Outcome → List Formula
  list_after log os = log ++ formulas_of m (entries_of os)

  abbrev all_after : List Filter → List Outcome → List Filter
  all_after fs os = fs ++ filters_of (kept_by os)

  list_shift : (log : List Formula) (p : Outcome) (os : List Outcome) → list_after log (p ∷ os) ≡ list_after (log_after m log p) os
  list_shift log p os = ap (λ l. log ++ l) (map-append (λ (e : Entry). formula_in m e.body.cubes) p.entries (entries_of os)) ∙ sym (append_assoc log (formulas_of m p.entries) (formulas_of m (entries_of os)))

  all_shift : (fs : List Filter) (p : Outcome) (os : List Outcome) → all_after fs (p ∷ os) ≡ all_after (filters_after fs p) os
  all_shift fs p os = ap (λ l. fs ++ l) (map-append (λ (k : Kept). k.filter) (kept_of p.shares) (kept_by os)) ∙ sym (append_assoc fs (filters_of (kept_of p.shares)) (filters_of (kept_by os)))

  abbrev Is : List Formula → List Filter → Outcome → Type 0
  Is log fs o = IsOutcome m log fs o

  -- the outcome's settlements are live
  abbrev IsLast : List Formula → List Filter → Outcome → Type 0
  IsLast log fs o = AllByRecursion (IsLiveBy m (log_after m log o) (filters_after fs o)) (settled_of o.shares)

  moved_on : (P : List Formula → List Filter → Type 0) (log : List Formula) (fs : List Filter) (p : Outcome) (os : List Outcome) → P (list_after log (p ∷ os)) (all_after fs (p ∷ os)) → P (list_after (log_after m log p) os) (all_after (filters_after fs p) os)
  moved_on P log fs p os h = subst (λ l. P l (all_after (filters_after fs p) os)) (list_shift log p os) (subst (λ f. P (list_after log (p ∷ os)) f) (all_shift fs p os) h)

  at_once : (P : List Formula → List Filter → Type 0) (log : List Formula) (fs : List Filter) → P (log ++ []) (fs ++ []) → P log fs
  at_once P log fs h = subst (λ l. P l fs) (append-nil log) (subst (λ f. P (log ++ []) f) (append-nil fs) h)

  rounds_more : (log : List Formula) (fs : List Filter) (os : List Outcome) (o : Outcome) → AreRounds m log fs os → Is (list_after log os) (all_after fs os) o → AreRounds m log fs (os ++ o ∷ [])
  rounds_more log fs [] o a b = (at_once (λ l f. Is l f o) log fs b, tt)
  rounds_more log fs (p ∷ os) o a b = (a.0, rounds_more (log_after m log p) (filters_after fs p) os o a.1 (moved_on (λ l f. Is l f o) log fs p os b))

  outcomes_first : (log : List Formula) (fs : List Filter) (p : Outcome) (os : List Outcome) → Is log fs p → AreOutcomes m (log_after m log p) (filters_after fs p) os → AreOutcomes m log fs (p ∷ os)
  outcomes_first log fs p [] a b = absurd b
  outcomes_first log fs p (o ∷ os) a b = (a, b)

  outcomes_last : (log : List Formula) (fs : List Filter) (os : List Outcome) (o : Outcome) → AreRounds m log fs os → Is (list_after log os) (all_after fs os) o → IsLast (list_after log os) (all_after fs os) o → AreOutcomes m log fs (os ++ o ∷ [])
  outcomes_last log fs [] o a b l = (at_once (λ l f. Is l f o) log fs b, at_once (λ l f. IsLast l f o) log fs l)
  outcomes_last log fs (p ∷ os) o a b l =
      outcomes_first log fs p (os ++ o ∷ []) a.0
      (outcomes_last (log_after m log p) (filters_after fs p) os o a.1 (moved_on (λ l f. Is l f o) log fs p os b) (moved_on (λ l f. IsLast l f o) log fs p os l))

  module _ (pool : Pool) (entries log : List Entry) (rounds : List Round) (tokens : List Seen) (before : ℕ) (hs : List Handed) (size : before ≡ length tokens)
      (run : HaveRun m pool entries rounds tokens) (whole : IsWholeRound m pool before entries log hs) where
    pub listed_log : AllByRecursion (Listed m) log
    listed_log = subst (AllByRecursion (Listed m)) (sym whole.log_is) (each-append (Listed m) entries whole.new run.classes whole.classes)

    pub have_tokens : AllByRecursion (HasTokens pool) hs
    have_tokens = each_got (HasTokens pool) hs (λ i h at. (whole.shares i h at).tokens)

    module _ (now : List Round) (tokens_now : List Seen) (round : HasRound tokens tokens_now rounds now (length log) hs) where
      abbrev Now : Outcome
      Now = record { shares = round.is.merged; entries = whole.new }

      abbrev Fs : List Filter
      Fs = filters_of (kept_by run.outcomes)

      count_is : length Fs ≡ before
      count_is = ap length run.filters_are ∙ (length-map tokens filter_of ∙ sym size)

      all_is : shown_by tokens_now ≡ filters_after Fs Now
      all_is = round.is.all_are ∙ ap (λ l. l ++ filters_of (kept_of round.is.merged)) (sym run.filters_are)

      merged : AreMergedShares Fs (filters_after Fs Now) hs round.is.merged
      merged =
          subst (λ all. AreMergedShares Fs all hs round.is.merged) all_is
          (subst (λ fs. AreMergedShares fs (shown_by tokens_now) hs round.is.merged) (sym run.filters_are) round.is.each)

      log_now : formulas_of m log ≡ log_after m (formulas_of m entries) Now
      log_now = ap (formulas_of m) whole.log_is ∙ map-append (λ (e : Entry). formula_in m e.body.cubes) entries whole.new

      log_long : length log ≡ length entries + length whole.new
      log_long = ap length whole.log_is ∙ length-append entries whole.new

      is_outcome : Is (formulas_of m entries) Fs Now
      is_outcome = record {
        workers = AllZip-long _ hs round.is.merged merged ∙ whole.workers;
        once = λ x. ap (times x) (drawn_same Fs (filters_after Fs Now) hs round.is.merged merged) ∙ whole.once x;
        entries = whole.gained;
        shares = subst (λ l. (i : ℕ) (share : Share) → slice_get round.is.merged i ≡ Some share → IsShareAmong m (filters_after Fs Now) l i share) log_now
            (shares_among m (formulas_of m log) Fs (filters_after Fs Now) hs round.is.merged merged (λ i h at. (whole.shares i h at).share Fs count_is));
      }

      at_end : Is (list_after [] run.outcomes) (all_after [] run.outcomes) Now
      at_end = subst (λ l. Is (formulas_of m l) Fs Now) run.entries_are is_outcome

      noted : now ≡ rounds_of 0 (run.outcomes ++ Now ∷ [])
      noted =
          let same : length entries ≡ length (entries_of run.outcomes) = ap length run.entries_are in
          let long : length log ≡ (0 + length (entries_of run.outcomes)) + length whole.new = omega (arith, log_long, same) in
          round.added
          ∙ (ap (λ rs. rs ++ round.round ∷ []) run.rounds_are
          ∙ (ap (λ r. rounds_of 0 run.outcomes ++ r ∷ []) round.is.round
          ∙ (ap (λ n. rounds_of 0 run.outcomes ++ round_of n Now ∷ []) long
          ∙ sym (rounds_push 0 run.outcomes Now))))

      log_of : log ≡ entries_of (run.outcomes ++ Now ∷ [])
      log_of = whole.log_is ∙ (ap (λ l. l ++ whole.new) run.entries_are
          ∙ (ap (λ l. entries_of run.outcomes ++ l) (sym (append-nil whole.new)) ∙ sym (flat_map-append (λ (o : Outcome). o.entries) run.outcomes (Now ∷ []))))

      one_more : length (run.outcomes ++ Now ∷ []) ≡ length run.outcomes + 1
      one_more = length-append run.outcomes (Now ∷ [])

      filters_now : filters_of (kept_by (run.outcomes ++ Now ∷ [])) ≡ shown_by tokens_now
      filters_now =
          ap filters_of (flat_map-append (λ (o : Outcome). kept_of o.shares) run.outcomes (Now ∷ []) ∙ ap (λ l. kept_by run.outcomes ++ l) (append-nil (kept_of round.is.merged)))
          ∙ (map-append (λ (k : Kept). k.filter) (kept_by run.outcomes) (kept_of round.is.merged) ∙ sym all_is)

      pub have_run_more : AllByRecursion (IsShown pool) tokens_now → length entries < length log → HaveRun m pool log now tokens_now
      have_run_more shown longer =
          let few = run.few in
          record {
            outcomes = run.outcomes ++ Now ∷ [];
            entries_are = log_of;
            rounds_are = noted;
            whole = rounds_more [] [] run.outcomes Now run.whole at_end;
            filters_are = filters_now;
            shown = shown;
            few = omega (arith, few, one_more, longer);
            placed = whole.placed;
            gained = subst (λ l. AreGained m [] l) (sym whole.log_is) (gained_on m [] entries whole.new run.gained whole.gained);
            classes = listed_log;
          }

      pub is_gathered : IsLiveRound m before log hs → IsGathered m (record { entries = log; rounds = now })
      is_gathered live =
          let few = run.few in
          let last : IsLast (formulas_of m entries) Fs Now =
          subst (λ l. AllByRecursion (IsLiveBy m l (filters_after Fs Now)) (settled_of round.is.merged)) log_now
          (live_same m (formulas_of m log) Fs (filters_after Fs Now) hs round.is.merged merged (live Fs count_is)) in
          record {
            outcomes = run.outcomes ++ Now ∷ [];
            is = ap (λ l. (let r : Record = record { entries = l; rounds = now } in r)) log_of ∙ ap (λ rs. (let r : Record = record { entries = entries_of (run.outcomes ++ Now ∷ []); rounds = rs } in r)) noted;
            whole = outcomes_last [] [] run.outcomes Now run.whole at_end (subst (λ l. IsLast (formulas_of m l) Fs Now) run.entries_are last);
            few = omega (arith, few, one_more, log_long);
            classes = listed_log;
          }

-- before the first round
pub have_run_none : (m : Search) (pool : Pool) → HaveRun m pool [] [] []
have_run_none m pool = record { outcomes = []; entries_are = refl; rounds_are = refl; whole = tt; filters_are = refl; shown = tt; few = omega arith; placed = λ i e at. absurd (cc); gained = tt; classes = tt }

-- the record that is handed back
pub gathered_as : (m : Search) (r : Record) (log : List Entry) (rounds : List Round) → r.entries ≡ log → r.rounds ≡ rounds → IsGathered m (record { entries = log; rounds = rounds }) → IsGathered m r
gathered_as m r log rounds e f h =
    subst (λ es. IsGathered m (record { entries = es; rounds = r.rounds })) (sym e) (subst (λ rs. IsGathered m (record { entries = log; rounds = rs })) (sym f) h)

pub run_as : (m : Search) (pool : Pool) (entries log : List Entry) (made rounds : List Round) (tokens shown : List Seen) → entries ≡ log → made ≡ rounds → tokens ≡ shown → HaveRun m pool log rounds shown → HaveRun m pool entries made tokens
run_as m pool entries log made rounds tokens shown e f t h =
    subst (λ es. HaveRun m pool es made tokens) (sym e) (subst (λ rs. HaveRun m pool log rs tokens) (sym f) (subst (HaveRun m pool log rounds) (sym t) h))
