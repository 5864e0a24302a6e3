-- The search as a whole, and why it ends.
use Rattle.std.specs.Prelude.{◌≡◌, ◌+◌, ◌-◌, ◌*◌, ◌^◌, ◌<◌, ◌≤◌, ◌↔◌, ℕ, zero, suc, Bool, true, false, List, [], ◌∷◌, ◌++◌, length, take, Option, None, IfSome, is_some, if◌then◌else◌, slice_index_or, Contains}
use Rattle.std.specs.List.{AllByRecursion}
use Rattle.sw_refute.specs.declared.clauses.Cnf.{Cnf}
use Rattle.sw_refute.specs.declared.clauses.Derived.{Derived}
use Rattle.sw_refute.specs.declared.clauses.Lit.{Lit}
use Rattle.sw_refute.specs.Propagation.{AreAccepted}
use Rattle.sw_sat.specs.declared.analyze.Learnt.{Learnt}
use Rattle.sw_sat.specs.declared.solver.Turn.{Turn}
use Rattle.sw_sat.specs.declared.solver.Turn.TheVariants as turn
use Rattle.sw_sat.specs.declared.trail.Entry.{Entry}
use Rattle.sw_sat.specs.declared.trail.Trail.{Trail}
use Rattle.sw_sat.specs.Answers.{IsNonempty, AreNew, IsRefutation, IsSpent}
use Rattle.sw_sat.specs.Occurring.{IsIndex}
use Rattle.sw_sat.specs.Trail.{AreAssigned, IsState, IsFixpoint, IsReady, IsUnassigned, all_clauses, literals, positive, negative}

-- every variable is assigned
abbrev pub IsTotal : ℕ → List Entry → Type 0
IsTotal variables entries = AreAssigned variables entries

-- the variable is the first that is not assigned
pub record IsFirstFree (variables : ℕ) (entries : List Entry) (v : ℕ) : Type 0 where
  pub within : v < variables
  pub before : AreAssigned v entries
  pub unassigned : IsUnassigned (literals entries) (negative v)

-- the values of the variables below this number, where these literals are true
pub record IsValuation (values : List Bool) (known : List Lit) (variables : ℕ) : Type 0 where
  pub size : length values ≡ variables
  pub each : (v : ℕ) → v < variables → (slice_index_or values v false ≡ true) ↔ Contains known (positive v)

-- a decision was added
pub record Decides (old new : List Entry) : Type 0 where
  pub entry : Entry
  pub is : new ≡ old ++ entry ∷ []
  pub decided : entry.reason ≡ None

-- the trail was taken back, and a forced literal added
pub record GoesBack (learnt : Learnt) (old new : List Entry) : Type 0 where
  pub entry : Entry
  pub is : new ≡ take learnt.keep old ++ entry ∷ []
  pub forced : entry.reason ≡ None → ⊥

-- the trail as a number of so many binary digits, the first entry's the highest: 1 where the literal
-- was forced, 0 at a decision and past the end
abbrev pub weight : ℕ → List Entry → ℕ
weight zero entries = 0
weight (suc digits) [] = 0
weight (suc digits) (e ∷ entries) = (if is_some e.reason then 2 ^ digits else 0) + weight digits entries

-- what is left of the search. Propagation and decisions never lower the weight, and each conflict that
-- is learnt from raises it: the numbers of assignments per decision level rise lexicographically.
abbrev pub left : ℕ → List Entry → ℕ
left variables entries = (2 ^ variables - weight variables entries) * (variables + 1) + (variables - length entries)

-- the search so far
pub record IsSearch (cnf : Cnf) (budget : Option ℕ) (steps : List Derived) (trail : Trail) : Type 0 where
  pub small : cnf.variables ≤ 2 ^ 31
  pub numbered : length (all_clauses cnf steps) ≤ 2 ^ 32
  pub state : IsState cnf.variables (all_clauses cnf steps) trail
  pub accepted : AreAccepted cnf.variables cnf.clauses steps
  pub nonempty : AllByRecursion IsNonempty steps
  pub new : AreNew cnf.clauses steps
  pub few : length steps ≤ weight cnf.variables trail.entries.items
  pub within : IfSome budget (λ most. length steps ≤ most)

-- what holds after a turn that began with the old trail and came to this
abbrev pub Turns : Cnf → Option ℕ → Trail → Trail → List Derived → Turn → Type 0
Turns cnf budget old trail steps turn.On = IsSearch cnf budget steps trail × (left cnf.variables trail.entries.items < left cnf.variables old.entries.items)
Turns cnf budget old trail steps turn.Satisfied = IsSearch cnf budget steps trail × IsFixpoint (all_clauses cnf steps) (literals trail.entries.items) × IsTotal cnf.variables trail.entries.items
Turns cnf budget old trail steps turn.Refuted = IsRefutation cnf budget steps
Turns cnf budget old trail steps turn.Spent = IsSpent cnf budget steps

-- the lists of occurrences are those of the clauses, and propagation had nothing to do before the last entry
pub record IsPrepared (cnf : Cnf) (steps : List Derived) (lists : List (List ℕ)) (entries : List Entry) : Type 0 where
  pub index : IsIndex cnf.variables (all_clauses cnf steps) lists
  pub ready : IsReady (all_clauses cnf steps) entries

-- the next turn, if there is one, is prepared
abbrev pub IsPreparedAfter : Cnf → List Derived → List (List ℕ) → List Entry → Turn → Type 0
IsPreparedAfter cnf steps lists entries turn.On = IsPrepared cnf steps lists entries
IsPreparedAfter cnf steps lists entries turn.Satisfied = Unit {0}
IsPreparedAfter cnf steps lists entries turn.Refuted = Unit {0}
IsPreparedAfter cnf steps lists entries turn.Spent = Unit {0}
