-- The trail of a search: what is true, in which order it became so, and why.
use Rattle.std.specs.Prelude.{◌≡◌, ◌+◌, ◌-◌, ◌*◌, ◌<◌, ◌≤◌, ◌↔◌, ◌⊎◌, ℕ, Bool, true, false, List, [], ◌++◌, length, map, take, None, Some, slice_get, slice_index_or, vec_capacity, All, Contains}
use Rattle.std.specs.List.{AllByRecursion}
use Rattle.sw_refute.specs.declared.clauses.Lit.{Lit}
use Rattle.sw_refute.specs.declared.clauses.Clause.{Clause}
use Rattle.sw_refute.specs.declared.clauses.Cnf.{Cnf}
use Rattle.sw_refute.specs.declared.clauses.Derived.{Derived}
use Rattle.sw_refute.specs.Satisfaction.{variable, negation}
use Rattle.sw_refute.specs.Propagation.{IsFalse, IsUnit, IsConflicting, clauses_of}
use Rattle.sw_sat.specs.declared.trail.Entry.{Entry}
use Rattle.sw_sat.specs.declared.trail.Trail.{Trail}

-- the clauses of the set and, after them, those of the steps
abbrev pub all_clauses : Cnf → List Derived → List Clause
all_clauses cnf steps = cnf.clauses ++ clauses_of steps

-- each literal of the clause and its negation have a value
abbrev pub HasValues : List Bool → Clause → Type 0
HasValues values c = All (λ l. (l.0 < length values) × ((negation l).0 < length values)) c.lits

-- the literals that a trail makes true
abbrev pub literals : List Entry → List Lit
literals entries = map (λ e. e.lit) entries

-- the literal that the variable is true
abbrev pub positive : ℕ → Lit
positive v = record { 0 = 2 * v }

-- the literal that the variable is false
abbrev pub negative : ℕ → Lit
negative v = record { 0 = 2 * v + 1 }

-- the variables below this number are assigned
abbrev pub AreAssigned : ℕ → List Entry → Type 0
AreAssigned below entries = (v : ℕ) → v < below → Contains (literals entries) (positive v) ⊎ Contains (literals entries) (negative v)

-- where these literals are true, neither this one nor its negation is
abbrev pub IsUnassigned : List Lit → Lit → Type 0
IsUnassigned known l = (Contains known l → ⊥) × (IsFalse known l → ⊥)

-- where these literals are true, one of the clause is
pub record IsTrueClause (known : List Lit) (c : Clause) : Type 0 where
  pub lit : Lit
  pub among : Contains c.lits lit
  pub holds : Contains known lit

-- where these literals are true, two different ones of the clause are unassigned
pub record IsOpenClause (known : List Lit) (c : Clause) : Type 0 where
  pub first : Lit
  pub second : Lit
  pub differ : first ≡ second → ⊥
  pub among : Contains c.lits first × Contains c.lits second
  pub unassigned : IsUnassigned known first × IsUnassigned known second

-- the clause is neither false nor a unit
abbrev pub IsSettled : List Lit → Clause → Type 0
IsSettled known c = IsTrueClause known c ⊎ IsOpenClause known c

-- where these literals are true, propagation has nothing to do
abbrev pub IsFixpoint : List Clause → List Lit → Type 0
IsFixpoint clauses known = (number : ℕ) (c : Clause) → slice_get clauses number ≡ Some c → IsSettled known c

-- where these literals are true, the clause of this number is neither false nor a unit
abbrev pub IsSettledAt : List Clause → List Lit → ℕ → Type 0
IsSettledAt clauses known number = (c : Clause) → slice_get clauses number ≡ Some c → IsSettled known c

-- a literal of the clause became false at this position of the trail or after it
pub record IsAwaited (entries : List Entry) (from : ℕ) (c : Clause) : Type 0 where
  pub at : ℕ
  pub low : from ≤ at
  pub entry : Entry
  pub is : slice_get entries at ≡ Some entry
  pub among : Contains c.lits (negation entry.lit)

-- the clause is neither false nor a unit, or will be read when propagation comes to a later entry
abbrev pub IsQuiet : List Entry → ℕ → Clause → Type 0
IsQuiet entries from c = IsSettled (literals entries) c ⊎ IsAwaited entries from c

-- so is each clause of these numbers
abbrev pub AreQuiet : List Clause → List ℕ → List Entry → ℕ → Type 0
AreQuiet clauses numbers entries from = (number : ℕ) (c : Clause) → Contains numbers number → slice_get clauses number ≡ Some c → IsQuiet entries from c

-- so is each clause
abbrev pub IsQuietFrom : List Clause → List Entry → ℕ → Type 0
IsQuietFrom clauses entries from = (number : ℕ) (c : Clause) → slice_get clauses number ≡ Some c → IsQuiet entries from c

-- before the last entry propagation had nothing to do, if there is one
abbrev pub IsReady : List Clause → List Entry → Type 0
IsReady clauses entries = (entries ≡ [] → ⊥) → IsQuietFrom clauses entries (length entries - 1)

-- the clause of this number makes the literal true
pub record Forces (clauses : List Clause) (known : List Lit) (number : ℕ) (l : Lit) : Type 0 where
  pub clause : Clause
  pub is : slice_get clauses number ≡ Some clause
  pub unit : IsUnit known clause l

-- where these literals are true, the clause of this number is false
pub record IsConflict (clauses : List Clause) (known : List Lit) (number : ℕ) : Type 0 where
  pub clause : Clause
  pub is : slice_get clauses number ≡ Some clause
  pub false : IsConflicting known clause

-- the entry may stand after these: its literal is of an unassigned variable, and either was forced or
-- was decided where propagation had nothing to do and all variables before it were assigned
pub record MayFollow (variables : ℕ) (clauses : List Clause) (before : List Entry) (e : Entry) : Type 0 where
  pub over : variable e.lit < variables
  pub unassigned : IsUnassigned (literals before) e.lit
  pub forced : (number : ℕ) → e.reason ≡ Some number → Forces clauses (literals before) number e.lit
  pub decided : e.reason ≡ None → IsFixpoint clauses (literals before)
  pub lowest : e.reason ≡ None → AreAssigned (variable e.lit) before

-- each entry may stand after those before it
pub record IsTrail (variables : ℕ) (clauses : List Clause) (entries : List Entry) : Type 0 where
  pub each : (at : ℕ) (e : Entry) → slice_get entries at ≡ Some e → MayFollow variables clauses (take at entries) e

-- the values are true at the literals of the trail and nowhere else
pub record Agrees (trail : Trail) : Type 0 where
  pub each : (l : Lit) → (slice_index_or trail.values.items l.0 false ≡ true) ↔ Contains (literals trail.entries.items) l

-- no literal stands twice, and each has a value
pub record IsPlain (trail : Trail) : Type 0 where
  pub apart : (at : ℕ) (e : Entry) → slice_get trail.entries.items at ≡ Some e → Contains (literals (take at trail.entries.items)) e.lit → ⊥
  pub within : (at : ℕ) (e : Entry) → slice_get trail.entries.items at ≡ Some e → e.lit.0 < length trail.values.items

-- the trail as the search has it, with room for every variable
pub record IsState (variables : ℕ) (clauses : List Clause) (trail : Trail) : Type 0 where
  pub founded : IsTrail variables clauses trail.entries.items
  pub agrees : Agrees trail
  pub size : length trail.values.items ≡ 2 * variables
  pub room : variables ≤ vec_capacity trail.entries

-- entries that were forced were added
pub record Grows (old new : List Entry) : Type 0 where
  pub more : List Entry
  pub is : new ≡ old ++ more
  pub forced : AllByRecursion (λ e. e.reason ≡ None → ⊥) more

-- the entries from this position on were forced
abbrev pub AreForcedFrom : List Entry → ℕ → Type 0
AreForcedFrom entries from = (at : ℕ) (e : Entry) → from ≤ at → slice_get entries at ≡ Some e → e.reason ≡ None → ⊥

-- a decision stands at this position
pub record IsDecision (entries : List Entry) (at : ℕ) : Type 0 where
  pub entry : Entry
  pub is : slice_get entries at ≡ Some entry
  pub decided : entry.reason ≡ None

-- a decision stands at this position, and none after it
pub record IsLastDecision (entries : List Entry) (at : ℕ) : Type 0 where
  pub here : IsDecision entries at
  pub after : AreForcedFrom entries (at + 1)
