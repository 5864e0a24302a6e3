-- What workers that were joined hand back of each round, and the record that is gathered of it.
use Rattle.std.specs.Prelude.{◌≡◌, ℕ, ◌+◌, ◌<◌, ◌≤◌, nat_lt, Bool, true, false, List, [], ◌∷◌, ◌++◌, map, length, take, Some, Contains, slice_get, if◌then◌else◌}
use Rattle.std.specs.List.{AllByRecursion, AllZip, flat_map}
use Rattle.sw_logic.specs.declared.syntax.Formula.{Formula}
use Rattle.sw_filter.specs.declared.filter.Filter.{Filter}
use Rattle.sw_filter.specs.Filters.{IsLive, Refutes}
use Rattle.sw_log.specs.declared.entry.Entry.{Entry}
use Rattle.sw_core.specs.declared.record.Kept.{Kept}
use Rattle.sw_core.specs.declared.record.Settled.{Settled}
use Rattle.sw_core.specs.declared.record.Round.{Round}
use Rattle.sw_core.specs.declared.record.Record.{Record}
use Rattle.sw_core.specs.Machine.{Search, AreBelow, filters_at, formula_in, parts_in, start}
use Rattle.sw_core.specs.Founded.{AreFounded, Gains, IsSettledWell}
use Rattle.sw_core.specs.Records.{times, steps_of}

-- what one worker hands back of a round: the numbers that it drew, the filters that it kept, and its settlements
pub record Share : Type 0 where
  pub drawn : List ℕ
  pub kept : List Kept
  pub settled : List Settled

-- what a round leaves: a share of each worker, and the entries that were appended
pub record Outcome : Type 0 where
  pub shares : List Share
  pub entries : List Entry

abbrev pub filters_of : List Kept → List Filter
filters_of kept = map (λ (k : Kept). k.filter) kept

abbrev pub formulas_of : Search → List Entry → List Formula
formulas_of m entries = map (λ (e : Entry). formula_in m e.body.cubes) entries

abbrev pub drawn_of : List Share → List (List ℕ)
drawn_of shares = map (λ (s : Share). s.drawn) shares

abbrev pub kept_of : List Share → List Kept
kept_of shares = flat_map (λ (s : Share). s.kept) shares

-- the log and the filters after a round
abbrev pub log_after : Search → List Formula → Outcome → List Formula
log_after m log o = log ++ formulas_of m o.entries

abbrev pub filters_after : List Filter → Outcome → List Filter
filters_after filters o = filters ++ filters_of (kept_of o.shares)

-- a settlement of this worker: each class of the part is good under a prefix of the log, by filters that there are
pub record IsSettledBy (m : Search) (worker : ℕ) (log : List Formula) (filters : List Filter) (x : Settled) : Type 0 where
  pub by_worker : x.worker ≡ worker
  pub under : x.under ≤ length log
  pub places : AreBelow (length filters) x.by
  pub good : IsSettledWell m log filters x

-- a filter of this worker, live under a prefix of the log
pub record IsKeptBy (m : Search) (worker : ℕ) (log : List Formula) (k : Kept) : Type 0 where
  pub by_worker : k.worker ≡ worker
  pub under : k.under ≤ length log
  pub live : IsLive m.protocol m.mode (take k.under log) k.filter

-- the filter refutes the class that it was found for, and no filter of its worker before it that is live under its prefix does
pub record IsFresh (m : Search) (log : List Formula) (before : List Kept) (k : Kept) : Type 0 where
  pub refutes : Refutes m.protocol k.filter (formula_in m k.body.cubes)
  pub first : AllByRecursion (λ (e : Kept). e.worker ≡ k.worker → IsLive m.protocol m.mode (take k.under log) e.filter → Refutes m.protocol e.filter (formula_in m k.body.cubes) → ⊥) before

-- each filter is fresh after those before it
abbrev pub AreFresh : Search → List Formula → List Kept → List Kept → Type 0
AreFresh m log before [] = Unit {0}
AreFresh m log before (k ∷ ks) = IsFresh m log before k × AreFresh m log (before ++ k ∷ []) ks

-- what is promised of a worker's share, whose settlements have places in these filters: each drawn part is settled, in the order of the draws, and each filter kept is fresh
pub record IsShareAmong (m : Search) (filters : List Filter) (log : List Formula) (worker : ℕ) (share : Share) : Type 0 where
  pub in_order : map (λ (x : Settled). x.part) share.settled ≡ share.drawn
  pub settled : AllByRecursion (IsSettledBy m worker log filters) share.settled
  pub kept : AllByRecursion (IsKeptBy m worker log) share.kept
  pub fresh : AreFresh m log [] share.kept

-- what a worker promises of its share: the places are in the filters before the round followed by its own
abbrev pub IsShare : Search → List Filter → List Formula → ℕ → Share → Type 0
IsShare m filters log worker share = IsShareAmong m (filters ++ filters_of share.kept) log worker share

-- each entry is of a worker, and gained under those before it
abbrev pub AreGained : Search → List Formula → List Entry → Type 0
AreGained m log [] = Unit {0}
AreGained m log (e ∷ es) = (e.worker < m.workers) × Gains m log (formula_in m e.body.cubes) × AreGained m (log ++ formula_in m e.body.cubes ∷ []) es

-- 1 for a number below n, and else 0
abbrev pub once_below : ℕ → ℕ → ℕ
once_below x n = if nat_lt x n then 1 else 0

-- a round that is whole: each part is drawn once over all workers, the entries are gained, and each share is as promised, with places among all filters that there are after the round
pub record IsOutcome (m : Search) (log : List Formula) (filters : List Filter) (o : Outcome) : Type 0 where
  pub workers : length o.shares ≡ m.workers
  pub once : (x : ℕ) → times x (flat_map (λ (s : Share). s.drawn) o.shares) ≡ once_below x (length (parts_in m))
  pub entries : AreGained m log o.entries
  pub shares : (i : ℕ) (share : Share) → slice_get o.shares i ≡ Some share → IsShareAmong m (filters_after filters o) (log_after m log o) i share

abbrev pub settled_of : List Share → List Settled
settled_of shares = flat_map (λ (s : Share). s.settled) shares

-- the record's round, with the log's length at its end
abbrev pub round_of : ℕ → Outcome → Round
round_of log o = record { drawn = drawn_of o.shares; kept = kept_of o.shares; settled = settled_of o.shares; log = log }

abbrev pub rounds_of : ℕ → List Outcome → List Round
rounds_of log [] = []
rounds_of log (o ∷ os) = round_of (log + length o.entries) o ∷ rounds_of (log + length o.entries) os

-- the record of the rounds, from an opening list of this length
abbrev pub record_of : ℕ → List Outcome → Record
record_of opening os = record { entries = flat_map (λ (o : Outcome). o.entries) os; rounds = rounds_of opening os }

-- the filters of the settlement are all live
abbrev pub IsLiveBy : Search → List Formula → List Filter → Settled → Type 0
IsLiveBy m log filters x = AllByRecursion (IsLive m.protocol m.mode log) (filters_at filters x.by)

-- whole rounds, one after the other, the last of which leaves only live settlements
abbrev pub AreOutcomes : Search → List Formula → List Filter → List Outcome → Type 0
AreOutcomes m log filters [] = ⊥
AreOutcomes m log filters (o ∷ []) =
    IsOutcome m log filters o × AllByRecursion (IsLiveBy m (log_after m log o) (filters_after filters o)) (settled_of o.shares)
AreOutcomes m log filters (o ∷ p ∷ os) = IsOutcome m log filters o × AreOutcomes m (log_after m log o) (filters_after filters o) (p ∷ os)

-- the record that is gathered of such rounds has founded steps
abbrev pub GatheredIsFounded : Type 0
GatheredIsFounded = (m : Search) (opening : List Formula) (os : List Outcome) → AreOutcomes m opening [] os →
    AreFounded m (start m opening) (steps_of (record_of (length opening) os) (length opening))

-- the filters that are chosen
abbrev pub chosen : {X : Type 0} → List Bool → List X → List X
chosen [] xs = []
chosen (b ∷ bs) [] = []
chosen (true ∷ bs) (x ∷ xs) = x ∷ chosen bs xs
chosen (false ∷ bs) (x ∷ xs) = chosen bs xs

-- the one settlement names in its list of filters those that the other names in its own, and is else the same
pub record NamesSame (from to : List Filter) (x y : Settled) : Type 0 where
  pub part : y.part ≡ x.part
  pub worker : y.worker ≡ x.worker
  pub under : y.under ≡ x.under
  pub places : AreBelow (length to) y.by
  pub all : AllByRecursion (Contains (filters_at to y.by)) (filters_at from x.by)
  pub only : AllByRecursion (Contains (filters_at from x.by)) (filters_at to y.by)

-- a share with some of its filters kept, whose settlements name the same filters as before
pub record IsMerged (from to : List Filter) (share merged : Share) : Type 0 where
  pub drawn : merged.drawn ≡ share.drawn
  pub marks : List Bool
  pub kept : merged.kept ≡ chosen marks share.kept
  pub settled : AllZip (NamesSame from to) share.settled merged.settled

-- a share that names its filters in another list is as promised there
abbrev pub MergedStays : Type 0
MergedStays = (m : Search) (from to : List Filter) (log : List Formula) (worker : ℕ) (share merged : Share) →
    IsMerged from to share merged → IsShareAmong m from log worker share → IsShareAmong m to log worker merged

-- the filters that it names are live where they were
abbrev pub MergedLive : Type 0
MergedLive = (m : Search) (from to : List Filter) (log : List Formula) (share merged : Share) →
    IsMerged from to share merged → AllByRecursion (IsLiveBy m log from) share.settled → AllByRecursion (IsLiveBy m log to) merged.settled

-- what a worker promises under the list that it has seen holds under the log that the list begins
abbrev pub ShareStays : Type 0
ShareStays = (m : Search) (filters : List Filter) (seen more : List Formula) (worker : ℕ) (share : Share) →
    IsShare m filters seen worker share → IsShare m filters (seen ++ more) worker share

-- entries that are each gained under the part of the log before them are gained in a row
abbrev pub EachGained : Type 0
EachGained = (m : Search) (log : List Formula) (es : List Entry) →
    ((k : ℕ) (e : Entry) → slice_get es k ≡ Some e → (e.worker < m.workers) × Gains m (take (length log + k) (log ++ formulas_of m es)) (formula_in m e.body.cubes)) →
    AreGained m log es

-- the filters that are kept in a whole round are fresh
abbrev pub KeptAreFresh : Type 0
KeptAreFresh = (m : Search) (log : List Formula) (filters : List Filter) (o : Outcome) → IsOutcome m log filters o → AreFresh m (log_after m log o) [] (kept_of o.shares)

-- a part that is settled is settled again under a longer prefix where its filters are live under that
abbrev pub SettledAgain : Type 0
SettledAgain = (m : Search) (log : List Formula) (filters : List Filter) (x : Settled) (under : ℕ) → x.under ≤ under → IsSettledWell m log filters x →
    IsLiveBy m (take under log) filters x → IsSettledWell m log filters (record x { under = under })

-- a settlement under a list at least this long, whose filters are live under it
pub record IsTimely (m : Search) (from : ℕ) (log : List Formula) (filters : List Filter) (x : Settled) : Type 0 where
  pub since : from ≤ x.under
  pub places : AreBelow (length filters) x.by
  pub live : AllByRecursion (IsLive m.protocol m.mode (take x.under log)) (filters_at filters x.by)

-- a settlement under a whole list, whose filters are live under it, leaves only live filters, so no other round comes after it
abbrev pub TimelyIsLive : Type 0
TimelyIsLive = (m : Search) (log : List Formula) (filters : List Filter) (x : Settled) → IsTimely m (length log) log filters x → IsLiveBy m log filters x
