-- The analysis of a conflict: which literals were seen, and what the clauses used so far show.
use Rattle.std.specs.Prelude.{◌≡◌, ◌<◌, ◌≤◌, ◌↔◌, ℕ, Bool, true, false, List, take, Some, slice_get, slice_index_or, reverse, Contains}
use Rattle.sw_refute.specs.declared.clauses.Lit.{Lit}
use Rattle.sw_refute.specs.declared.clauses.Clause.{Clause}
use Rattle.sw_refute.specs.Satisfaction.{negation}
use Rattle.sw_refute.specs.Propagation.{Propagates, IsUnit, IsAccepted}
use Rattle.sw_sat.specs.declared.analyze.Learnt.{Learnt}
use Rattle.sw_sat.specs.declared.trail.Entry.{Entry}
use Rattle.sw_sat.specs.Answers.{IsNonempty, ContainsNone}
use Rattle.sw_sat.specs.Trail.{literals, IsSettled, IsDecision}

-- the literal was seen
abbrev pub IsSeen : List Bool → Lit → Type 0
IsSeen seen l = slice_index_or seen l.0 false ≡ true

-- what was seen stays so
abbrev pub KeepsSeen : List Bool → List Bool → Type 0
KeepsSeen old new = (l : Lit) → IsSeen old l → IsSeen new l

-- the literal at this position was seen
pub record IsSeenAt (seen : List Bool) (entries : List Entry) (at : ℕ) : Type 0 where
  pub entry : Entry
  pub is : slice_get entries at ≡ Some entry
  pub is_seen : IsSeen seen entry.lit

-- a literal between these positions was seen
pub record IsSeenBetween (seen : List Bool) (entries : List Entry) (from to : ℕ) : Type 0 where
  pub at : ℕ
  pub low : from ≤ at
  pub high : at < to
  pub here : IsSeenAt seen entries at

-- no literal between these positions was seen
abbrev pub NoneSeenBetween : List Bool → List Entry → ℕ → ℕ → Type 0
NoneSeenBetween seen entries from to = (at : ℕ) → from ≤ at → at < to → IsSeenAt seen entries at → ⊥

-- at this position stands the one literal of the level that was seen
pub record IsUnique (seen : List Bool) (entries : List Entry) (start at : ℕ) : Type 0 where
  pub here : IsSeenAt seen entries at
  pub only : NoneSeenBetween seen entries start at

-- from any literals that are true below this position and among which are those that were seen, the
-- clauses used lead to a conflict
pub record Leads (clauses : List Clause) (entries : List Entry) (seen : List Bool) (used : List ℕ) (below : ℕ) : Type 0 where
  pub each : (known : List Lit) → ((l : Lit) → Contains known l → Contains (literals (take below entries)) l)
      → ((l : Lit) → Contains (literals (take below entries)) l → IsSeen seen l → Contains known l) → Propagates clauses known (reverse used)

-- the decision up to which the trail is kept: all that was seen before the start stands below it, and
-- each level kept begins before something that was seen
pub record IsCut (seen : List Bool) (entries : List Entry) (start keep : ℕ) : Type 0 where
  pub decision : IsDecision entries keep
  pub within : keep ≤ start
  pub kept : NoneSeenBetween seen entries keep start
  pub levels : (at : ℕ) → at < keep → IsDecision entries at → IsSeenBetween seen entries at start

-- the clause has the negations of the literals that were seen among these
abbrev pub NegatesSeen : List Bool → List Lit → Clause → Type 0
NegatesSeen seen known c = (l : Lit) → Contains c.lits l ↔ (Contains known (negation l) × IsSeen seen (negation l))

-- what is learnt: a step that is accepted and new, and of whose clause one literal alone is not false on
-- the part of the trail that is kept
pub record IsLearnt (variables : ℕ) (clauses : List Clause) (entries : List Entry) (learnt : Learnt) : Type 0 where
  pub accepted : IsAccepted variables clauses learnt.step
  pub nonempty : IsNonempty learnt.step
  pub new : ContainsNone clauses learnt.step.clause
  pub cut : IsDecision entries learnt.keep
  pub unit : IsUnit (literals (take learnt.keep entries)) learnt.step.clause learnt.asserting
  pub settled : (at : ℕ) → at < learnt.keep → IsDecision entries at → IsSettled (literals (take at entries)) learnt.step.clause
