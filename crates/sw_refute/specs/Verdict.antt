-- What the check of a list of steps has to answer.
use Rattle.std.specs.Prelude.{◌≡◌, ◌<◌, ◌↔◌, ℕ, true, List, ◌++◌, length, take, Some, slice_get, IsTrue}
use Rattle.sw_refute.specs.declared.check.StepsVerdict.{StepsVerdict}
use Rattle.sw_refute.specs.declared.check.StepsVerdict.TheVariants.{Accepted, Refused}
use Rattle.sw_refute.specs.declared.clauses.Cnf.{Cnf}
use Rattle.sw_refute.specs.declared.clauses.Derived.{Derived}
use Rattle.sw_refute.specs.Satisfaction.{Assignment, all_hold, AreUnsatisfiable}
use Rattle.sw_refute.specs.Propagation.{IsAccepted, AreAccepted, EndsEmpty, clauses_of}

-- the steps before this one are accepted, and this one is not
pub record IsFirstRefused (cnf : Cnf) (steps : List Derived) (k : ℕ) : Type 0 where
  pub within : k < length steps
  pub before : AreAccepted cnf.variables cnf.clauses (take k steps)
  pub here : (s : Derived) → slice_get steps k ≡ Some s → IsAccepted cnf.variables (cnf.clauses ++ clauses_of (take k steps)) s → ⊥

abbrev pub Judges : Cnf → List Derived → StepsVerdict → Type 0
Judges cnf steps (Accepted empty) = AreAccepted cnf.variables cnf.clauses steps × (IsTrue empty ↔ EndsEmpty steps)
Judges cnf steps (Refused k) = IsFirstRefused cnf steps k

-- what a verdict says of truth: accepted steps are true wherever the clauses are, and where the last is
-- empty no assignment makes every clause true
abbrev pub Implies : Cnf → List Derived → StepsVerdict → Type 0
Implies cnf steps (Accepted empty) = ((a : Assignment) → all_hold a cnf.clauses ≡ true → all_hold a (clauses_of steps) ≡ true) × (IsTrue empty → AreUnsatisfiable cnf.clauses)
Implies cnf steps (Refused k) = Unit {0}
