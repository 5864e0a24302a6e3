-- The rule of the log: what the turn word, the length word, the slot and what all seats know say of one another at every moment.
use Rattle.std.specs.Prelude.{◌≡◌, ℕ, ◌+◌, ◌≤◌, ◌<◌, ◌^◌, ◌==◌, nat_lt, if◌then◌else◌, Bool, true, false, List, [], ◌∷◌, length, slice_index, Vec}
use Rattle.std.specs.Global.{Global}
use mathlib.Core.Option.{some}
use mathlib.Core.List.{IsPrefix}
use lib.ListN.{get_elem?}
use Rattle.atomic_table.specs.Table.{State}
use Rattle.sw_log.specs.declared.entry.Entry.{Entry}
use Rattle.sw_log.specs.declared.rule.LogView.{LogView}

-- a list of entries as it lies in the slot
abbrev pub Held : Type 0
Held = Vec Entry Global

-- the sum of f over all views
abbrev pub total : (LogView → ℕ) → List LogView → ℕ
total f [] = 0
total f (v ∷ vs) = f v + total f vs

-- P holds of each view
abbrev pub Each : (LogView → Type 0) → List LogView → Type 0
Each P views = (id : ℕ) (v : LogView) → get_elem? views id ≡ some v → P v

abbrev pub weight : Bool → ℕ
weight true = 1
weight false = 0

-- how many views are not spent
abbrev pub live_count : List LogView → ℕ
live_count views = total (λ v. weight v.live) views

-- how many views have the turn
abbrev pub hold_count : List LogView → ℕ
hold_count views = total (λ v. weight v.holds) views

-- how many of the entries name the place i
abbrev pub times_at : ℕ → List Entry → ℕ
times_at i [] = 0
times_at i (e ∷ es) = (if e.under == i then 1 else 0) + times_at i es

-- 1 for a number below n, and else 0
abbrev pub once_below : ℕ → ℕ → ℕ
once_below i n = if nat_lt i n then 1 else 0

-- each entry stands at the place that it names
abbrev pub Placed : List Entry → Type 0
Placed log = (i : ℕ) (e : Entry) → get_elem? log i ≡ some e → e.under ≡ i

-- each of these entries stands in the log at the place that it names
abbrev pub StandIn : List Entry → List Entry → Type 0
StandIn own log = (k : ℕ) (e : Entry) → get_elem? own k ≡ some e → get_elem? log e.under ≡ some e

-- these entries are those of the log, each once
pub record HoldsEach (own log : List Entry) : Type 0 where
  pub once : (i : ℕ) → times_at i own ≡ once_below i (length log)
  pub stand : StandIn own log

-- the first seat's view at the start
abbrev pub opened : List Entry → ℕ → LogView
opened log splits = record { live = true; first = true; seen = log; own = log; splits = splits; out = 0; holds = false; shorter = [] }

-- the view of a new seat
abbrev pub fresh : List Entry → LogView
fresh seen = record { live = true; first = false; seen = seen; own = []; splits = 0; out = 0; holds = false; shorter = [] }

-- the view of a seat that was joined: it has seen and owns nothing
abbrev pub spent : LogView
spent = record { live = false; first = false; seen = []; own = []; splits = 0; out = 0; holds = false; shorter = [] }

-- a view and the log
pub record Fits (log : List Entry) (v : LogView) : Type 0 where
  pub gone : v.live ≡ false → v ≡ spent
  pub seen : IsPrefix v.seen log
  pub shorter : IsPrefix v.shorter v.seen
  pub owns : StandIn v.own v.seen
  pub holder : v.holds ≡ true → v.seen ≡ log
  pub splitter : v.first ≡ false → v.splits ≡ 0

-- there is at most one first seat, and its number of seats out is the number of other views that are not spent
abbrev pub CountsOut : List LogView → Type 0
CountsOut views = (id : ℕ) (v : LogView) → get_elem? views id ≡ some v → v.first ≡ true → (id ≡ 0) × (live_count views ≡ v.out + 1)

-- the log, the turn word and the views: at most one view has the turn, and the views own the entries of the log, each once
pub record Logged (log : List Entry) (turn : ℕ) (views : List LogView) : Type 0 where
  pub placed : Placed log
  pub few : length log < 2 ^ 32
  pub turns : turn ≤ 1
  pub holders : hold_count views ≡ turn
  pub once : (i : ℕ) → total (λ v. times_at i v.own) views ≡ once_below i (length log)
  pub each : Each (Fits log) views
  pub out : CountsOut views

-- the rule of a table with two words, the turn word and the length word, and one slot, which is at home with the log while no view has the turn
pub record Kept (s : State Held LogView) : Type 0 where
  pub log : List Entry
  pub words : length s.words ≡ 2
  pub homes : length s.homes ≡ 1
  pub long : slice_index s.words 1 ≡ length log
  pub home : slice_index s.words 0 ≡ 0 → (list : Held) × (get_elem? s.homes 0 ≡ some (some list)) × (list.items ≡ log)
  pub rule : Logged log (slice_index s.words 0) s.views
