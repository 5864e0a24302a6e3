-- Laws about accepted steps.
use Rattle.std.specs.Prelude.{◌≡◌, ℕ, true, List}
use Rattle.sw_refute.specs.declared.check.StepsVerdict.{StepsVerdict}
use Rattle.sw_refute.specs.declared.clauses.Clause.{Clause}
use Rattle.sw_refute.specs.declared.clauses.Cnf.{Cnf}
use Rattle.sw_refute.specs.declared.clauses.Derived.{Derived}
use Rattle.sw_refute.specs.Satisfaction.{Assignment, all_hold, Follows, AreUnsatisfiable}
use Rattle.sw_refute.specs.Propagation.{IsAccepted, AreAccepted, EndsEmpty, clauses_of}
use Rattle.sw_refute.specs.Verdict.{Judges}

-- an accepted step is implied: its clause is true wherever the clauses before it are
abbrev pub AcceptedStepFollows : Type 0
AcceptedStepFollows =
    (variables : ℕ) (clauses : List Clause) (s : Derived) → IsAccepted variables clauses s → Follows clauses s.clause

-- what accepted steps derive is true wherever the clauses are
abbrev pub AcceptedStepsFollow : Type 0
AcceptedStepsFollow =
    (variables : ℕ) (clauses : List Clause) (steps : List Derived) → AreAccepted variables clauses steps
    → (a : Assignment) → all_hold a clauses ≡ true → all_hold a (clauses_of steps) ≡ true

-- where the last of accepted steps is empty, no assignment makes every clause true
abbrev pub EmptyStepRefutes : Type 0
EmptyStepRefutes =
    (variables : ℕ) (clauses : List Clause) (steps : List Derived) → AreAccepted variables clauses steps → EndsEmpty steps
    → AreUnsatisfiable clauses

-- a list of steps has one verdict
abbrev pub StepsHaveOneVerdict : Type 0
StepsHaveOneVerdict = (cnf : Cnf) (steps : List Derived) (v w : StepsVerdict) → Judges cnf steps v → Judges cnf steps w → v ≡ w
