-- The rounds that were made so far, and what they leave.
use Rattle.std.specs.Prelude.{◌≡◌, ℕ, ◌+◌, ◌≤◌, List, [], ◌∷◌, ◌++◌, map, length, Some, slice_get}
use Rattle.std.specs.List.{AllByRecursion, flat_map}
use Rattle.sw_logic.specs.declared.syntax.Formula.{Formula}
use Rattle.sw_meaning.specs.declared.protocol.Protocol.{Protocol}
use Rattle.sw_meaning.specs.Plain.{Until, PlainList}
use Rattle.sw_meaning.specs.Plain.{Round as PlainRound}
use Rattle.sw_filter.specs.declared.filter.Filter.{Filter}
use Rattle.sw_filter.specs.declared.filter.Mode.TheVariants.{Breadth}
use Rattle.sw_filter.specs.Filters.{IsLive}
use Rattle.sw_log.specs.declared.entry.Entry.{Entry}
use Rattle.sw_log.specs.LogRule.{Placed}
use Rattle.sw_pool.specs.declared.pool.Pool.{Pool}
use Rattle.sw_pool.specs.declared.pool.Seen.{Seen}
use Rattle.sw_pool.specs.Pools.{IsShown}
use Rattle.sw_core.specs.declared.record.Kept.{Kept}
use Rattle.sw_core.specs.declared.record.Settled.{Settled}
use Rattle.sw_core.specs.declared.record.Round.{Round}
use Rattle.sw_core.specs.Machine.{Search, parts_in}
use Rattle.sw_core.specs.Gathered.{Share, Outcome, IsOutcome, IsLiveBy, AreGained, filters_after, filters_of, formulas_of, kept_of, log_after, rounds_of}
use Rattle.sw_walk.specs.Parts.{classes_of, IsClass}
use Rattle.sw_hand.specs.declared.hand.Handed.{Handed}
use Rattle.sw_gather.specs.Gathers.{IsRoundOf, shown_by}
use Rattle.sw_work.specs.Works.{bodies_of}

-- ---- a round's settlements

-- the place is that of a filter that the share kept, which is live under the list
pub record IsLiveAt (p : Protocol) (list : List Formula) (before : ℕ) (kept : List Kept) (place : ℕ) : Type 0 where
  pub own : ℕ
  pub place_is : place ≡ before + own
  pub found : Kept
  pub at : slice_get kept own ≡ Some found
  pub live : IsLive p Breadth list found.filter

abbrev pub AreLiveAt : Protocol → List Formula → ℕ → List Kept → List ℕ → Type 0
AreLiveAt p list before kept places = AllByRecursion (IsLiveAt p list before kept) places

-- the filters of each of the share's settlements are live
abbrev pub IsLiveShare : Protocol → List Formula → ℕ → Handed → Type 0
IsLiveShare p list before h = AllByRecursion (λ (x : Settled). AreLiveAt p list before h.kept x.by) h.settled

-- the filters of the round's settlements are live under the whole log
abbrev pub IsLiveRound : Search → ℕ → List Entry → List Handed → Type 0
IsLiveRound m before log hs =
    (filters : List Filter) → length filters ≡ before → AllByRecursion (λ (h : Handed). AllByRecursion (IsLiveBy m (formulas_of m log) (filters ++ filters_of h.kept)) h.settled) hs

-- ---- the rounds so far

abbrev pub entries_of : List Outcome → List Entry
entries_of os = flat_map (λ (o : Outcome). o.entries) os

abbrev pub kept_by : List Outcome → List Kept
kept_by os = flat_map (λ (o : Outcome). kept_of o.shares) os

-- whole rounds, one after the other
abbrev pub AreRounds : Search → List Formula → List Filter → List Outcome → Type 0
AreRounds m log filters [] = Unit {0}
AreRounds m log filters (o ∷ os) = IsOutcome m log filters o × AreRounds m (log_after m log o) (filters_after filters o) os

-- whole rounds were made, each of which gained some entry; tokens of the pool show the filters that they kept
pub record HaveRun (m : Search) (pool : Pool) (entries : List Entry) (rounds : List Round) (tokens : List Seen) : Type 0 where
  pub outcomes : List Outcome
  pub entries_are : entries ≡ entries_of outcomes
  pub rounds_are : rounds ≡ rounds_of 0 outcomes
  pub whole : AreRounds m [] [] outcomes
  pub filters_are : filters_of (kept_by outcomes) ≡ shown_by tokens
  pub shown : AllByRecursion (IsShown pool) tokens
  pub few : length outcomes ≤ length entries
  pub placed : Placed entries
  pub gained : AreGained m [] entries
  pub classes : AllByRecursion (λ (e : Entry). IsClass (parts_in m) e.body) entries

-- with one worker, the plain pass leads through these entries: what it comes to from them is the plain list, and the other way round
pub record IsOnPlainWay (m : Search) (entries : List Entry) : Type 0 where
  pub ahead : (h : List (List ℕ)) → Until (PlainRound m.protocol m.template) (classes_of (bodies_of entries)) h → PlainList m.protocol m.template h
  pub through : (h : List (List ℕ)) → PlainList m.protocol m.template h → Until (PlainRound m.protocol m.template) (classes_of (bodies_of entries)) h

abbrev pub StaysPlain : Search → List Entry → Type 0
StaysPlain m entries = m.workers ≡ 1 → IsOnPlainWay m entries

-- one round more of these shares, under a log of this length
pub record HasRound (tokens tokens_now : List Seen) (rounds rounds_now : List Round) (log : ℕ) (hs : List Handed) : Type 0 where
  pub round : Round
  pub added : rounds_now ≡ rounds ++ round ∷ []
  pub is : IsRoundOf (shown_by tokens) log hs (shown_by tokens_now) round
