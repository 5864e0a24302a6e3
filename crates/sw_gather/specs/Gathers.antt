-- The record of a round, from what its workers hand back.
use Rattle.std.specs.Prelude.{◌≡◌, ℕ, ◌+◌, ◌-◌, nat_lt, Bool, List, [], ◌∷◌, ◌++◌, map, length, take, Some, slice_get, slice_index, if◌then◌else◌}
use Rattle.std.specs.List.{AllByRecursion, AllZip}
use Rattle.std.specs.List.Sorted.{IsPermutation}
use Rattle.sw_filter.specs.declared.filter.Filter.{Filter}
use Rattle.sw_pool.specs.declared.pool.Pool.{Pool}
use Rattle.sw_pool.specs.declared.pool.Seen.{Seen}
use Rattle.sw_pool.specs.Pools.{IsShown, filter_of}
use Rattle.sw_core.specs.declared.record.Kept.{Kept}
use Rattle.sw_core.specs.declared.record.Settled.{Settled}
use Rattle.sw_core.specs.declared.record.Round.{Round}
use Rattle.sw_core.specs.Machine.{AreBelow}
use Rattle.sw_core.specs.Gathered.{Share, chosen, drawn_of, filters_of, kept_of, settled_of, IsMerged}
use Rattle.sw_hand.specs.declared.hand.Handed.{Handed}
use Rattle.sw_hand.specs.Hands.{share_of}

-- the filters that tokens show
abbrev pub shown_by : List Seen → List Filter
shown_by tokens = map filter_of tokens

-- the pool shows each filter that the worker kept at its token
abbrev pub HasTokens : Pool → Handed → Type 0
HasTokens pool h = AllZip (λ token (k : Kept). IsShown pool token × (filter_of token ≡ k.filter)) h.tokens.items h.kept

-- the record's round of these shares, after these filters and with the log's length at its end: of each worker's filters some stand in it, and its settlements name the same filters as before
pub record IsRoundOf (before : List Filter) (log : ℕ) (hs : List Handed) (all : List Filter) (r : Round) : Type 0 where
  pub merged : List Share
  pub each : AllZip (λ (h : Handed) s. IsMerged (before ++ filters_of h.kept) all (share_of h) s) hs merged
  pub round : r ≡ record { drawn = drawn_of merged; kept = kept_of merged; settled = settled_of merged; log = log }
  pub all_are : all ≡ before ++ filters_of (kept_of merged)

-- ---- steps to it

-- a place among the filters before and a worker's own, as a place among all, by the places of its own
abbrev pub moved_by : ℕ → List ℕ → ℕ → ℕ
moved_by before places k = if nat_lt k before then k else slice_index places (k - before)

-- the settlement with its places moved so, in some order
pub record IsMovedBy (before : ℕ) (places : List ℕ) (x y : Settled) : Type 0 where
  pub part : y.part ≡ x.part
  pub worker : y.worker ≡ x.worker
  pub under : y.under ≡ x.under
  pub within : AreBelow (before + length places) x.by
  pub by : IsPermutation (map (moved_by before places) x.by) y.by

-- at the places stand the filters
abbrev pub AreAt : List Filter → List Filter → List ℕ → Type 0
AreAt all filters places = map (slice_get all) places ≡ map Some filters

-- of the filters of each share some, one after the other
abbrev pub AreKeptOf : List Handed → List Kept → Type 0
AreKeptOf [] ks = ks ≡ []
AreKeptOf (h ∷ hs) ks = (marks : List Bool) × (rest : List Kept) × (ks ≡ chosen marks h.kept ++ rest) × AreKeptOf hs rest

-- the settlements of each share, with their places among all filters, one after the other
abbrev pub AreSettledOf : ℕ → List Filter → List Handed → List Settled → Type 0
AreSettledOf before all [] xs = xs ≡ []
AreSettledOf before all (h ∷ hs) xs =
    (places : List ℕ) × (own : List Settled) × (rest : List Settled) × AreAt all (filters_of h.kept) places
    × AllZip (IsMovedBy before places) h.settled own × (xs ≡ own ++ rest) × AreSettledOf before all hs rest
