-- What the calls answer, and what their seat knows afterwards.
use Rattle.std.specs.Prelude.{◌≡◌, ◌<◌, List, length}
use Rattle.sw_log.specs.declared.entry.Entry.{Entry}
use Rattle.sw_log.specs.declared.rule.LogView.{LogView}
use Rattle.sw_log.specs.declared.seats.Appended.{Appended}
use Rattle.sw_log.specs.declared.seats.Appended.TheVariants.{Done, Behind, Memory}
use Rattle.sw_log.specs.LogSteps.{Finds, appended}

-- the whole log was seen, which begins with what the seat had seen
pub record Sees (v : LogView) (log : List Entry) (w : LogView) : Type 0 where
  pub finds : Finds v log
  pub seen : w ≡ record v { seen = log }

-- the log was as long as the entry says, and the entry is the last one now
pub record AppendsLast (v : LogView) (e : Entry) (w : LogView) : Type 0 where
  pub log : List Entry
  pub finds : Finds v log
  pub place : e.under ≡ length log
  pub last : w ≡ appended (record v { seen = log }) e

-- the log was longer than the entry says, and is told
pub record IsBehind (v : LogView) (e : Entry) (log : List Entry) (w : LogView) : Type 0 where
  pub longer : e.under < length log
  pub sees : Sees v log w

-- what an append answers. Want of memory leaves the log as it was
abbrev pub Appends : LogView → Entry → Appended → LogView → Type 0
Appends v e Done w = AppendsLast v e w
Appends v e (Behind list) w = IsBehind v e list.items w
Appends v e (Memory back) w = (back ≡ e) × Sees v w.seen w
