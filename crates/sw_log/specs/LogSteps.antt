-- What each step on the two words tells its seat.
use Rattle.std.specs.Prelude.{◌≡◌, ℕ, ◌+◌, ◌-◌, ◌≤◌, ◌<◌, ◌^◌, nat_lt, if◌then◌else◌, true, false, List, [], ◌∷◌, ◌++◌, length, drop}
use mathlib.Core.List.{IsPrefix}
use Rattle.atomic_table.specs.Table.{Me, Step}
use Rattle.sw_log.specs.declared.entry.Entry.{Entry}
use Rattle.sw_log.specs.declared.rule.LogView.{LogView}
use Rattle.sw_log.specs.LogRule.{Held, Placed}

abbrev pub Knows : Type 0
Knows = Me Held LogView

-- no other seat is in use
abbrev pub IsAlone : LogView → Type 0
IsAlone v = (v.first ≡ true) × (v.out ≡ 0)

-- a seat in use that has no turn
pub record IsIdle (m : Knows) : Type 0 where
  pub bare : m.1 ≡ []
  pub live : m.0.live ≡ true
  pub free : m.0.holds ≡ false
  pub compared : m.0.shorter ≡ []

-- the seat has the slot, with these entries
abbrev pub HasList : List Entry → List (ℕ × Held) → Type 0
HasList xs slots = (list : Held) × (slots ≡ (0, list) ∷ []) × (list.items ≡ xs)

-- the seat has the slot
abbrev pub HasSlot : List (ℕ × Held) → Type 0
HasSlot slots = (list : Held) × (slots ≡ (0, list) ∷ [])

-- the turn was taken, and all of the log seen
abbrev pub holding : LogView → List Entry → LogView
holding v log = record v { holds = true; seen = log }

-- the turn was given back
abbrev pub freed : LogView → LogView
freed v = record v { holds = false }

-- what a seat that sees the whole log learns of it: it begins with what the seat had seen, and with no other seat in use it is that
pub record Finds (v : LogView) (log : List Entry) : Type 0 where
  pub begins : IsPrefix v.seen log
  pub placed : Placed log
  pub few : length log < 2 ^ 32
  pub alone : IsAlone v → log ≡ v.seen

-- the turn was free, and the seat has it and the slot; or nothing happened
pub record Took (st : Step Held) (m : Knows) (n : ℕ) (m' : Knows) : Type 0 where
  pub taken : n ≡ 0 → (list : Held) × (m' ≡ (holding m.0 list.items, (0, list) ∷ m.1)) × Finds m.0 list.items
  pub busy : 1 ≤ n → m' ≡ m

-- the list has gone out of the slot
pub record Takes (v : LogView) (log : List Entry) (m : Knows) : Type 0 where
  pub view : m.0 ≡ holding v log
  pub slot : HasSlot m.1
  pub finds : Finds v log

-- the entries of the slot that the seat took last
abbrev pub held : List (ℕ × Held) → List Entry
held [] = []
held (x ∷ xs) = x.1.items

-- the list of the slot is the log now, and what is new in it is the seat's own
abbrev pub Stored : Step Held → Knows → ℕ → Knows → Type 0
Stored st m n m' = m' ≡ (record m.0 { seen = held m.1; own = m.0.own ++ drop (length m.0.seen) (held m.1) }, m.1)

-- one entry more, which is the seat's own
abbrev pub appended : LogView → Entry → LogView
appended v e = record v { seen = v.seen ++ e ∷ []; own = v.own ++ e ∷ [] }

abbrev pub Freed : Step Held → Knows → ℕ → Knows → Type 0
Freed st m n m' = m' ≡ (freed m.0, [])

-- the length of a log that begins with what the seat has seen
pub record SeesLength (v : LogView) (n : ℕ) : Type 0 where
  pub least : length v.seen ≤ n
  pub few : n < 2 ^ 32
  pub alone : IsAlone v → n ≡ length v.seen

-- the shorter list of a join was compared
abbrev pub compared : LogView → LogView
compared v = record v { shorter = [] }

pub record Measured (st : Step Held) (m : Knows) (n : ℕ) (m' : Knows) : Type 0 where
  pub same : m' ≡ (compared m.0, m.1)
  pub length_is : SeesLength m.0 n
  pub shorter : IsPrefix m.0.shorter m.0.seen

-- one split made
abbrev pub given : LogView → LogView
given v = record v { splits = v.splits - 1; out = v.out + 1 }

-- the longer of two lists, and the other one
abbrev pub longer_of : List Entry → List Entry → List Entry
longer_of xs ys = if nat_lt (length xs) (length ys) then ys else xs

abbrev pub shorter_of : List Entry → List Entry → List Entry
shorter_of xs ys = if nat_lt (length xs) (length ys) then xs else ys

-- what the other has seen and owns is taken in
abbrev pub joined : LogView → LogView → LogView
joined v w = record v { seen = longer_of v.seen w.seen; own = v.own ++ w.own; out = v.out - 1 }

-- the same, before the lists were compared
abbrev pub merged : LogView → LogView → LogView
merged v w = record (joined v w) { shorter = shorter_of v.seen w.seen }
