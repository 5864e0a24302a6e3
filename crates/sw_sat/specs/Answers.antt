-- What each answer of the solver says of the set of clauses.
use Rattle.std.specs.Prelude.{◌≡◌, ◌+◌, ◌^◌, ◌<◌, ◌≤◌, ℕ, Bool, true, false, List, [], ◌∷◌, ◌++◌, length, Option, Some, IfSome, slice_index_or, All, Contains}
use Rattle.std.specs.List.{AllByRecursion}
use Rattle.sw_refute.specs.declared.clauses.Clause.{Clause}
use Rattle.sw_refute.specs.declared.clauses.Cnf.{Cnf}
use Rattle.sw_refute.specs.declared.clauses.Derived.{Derived}
use Rattle.sw_refute.specs.Satisfaction.{Assignment, all_hold}
use Rattle.sw_refute.specs.Propagation.{AreAccepted}
use Rattle.sw_sat.specs.declared.solved.Solved.{Solved}
use Rattle.sw_sat.specs.declared.solved.Solved.TheVariants.{Satisfied, Refuted, Spent}

-- the values as an assignment
abbrev pub assignment_of : List Bool → Assignment
assignment_of values v = slice_index_or values v false

-- one value a variable, and every clause is true
pub record IsModel (cnf : Cnf) (values : List Bool) : Type 0 where
  pub total : length values ≡ cnf.variables
  pub holds : all_hold (assignment_of values) cnf.clauses ≡ true

-- the step's clause has a literal
abbrev pub IsNonempty : Derived → Type 0
IsNonempty s = s.clause.lits ≡ [] → ⊥

-- the last of the steps is empty, and no other
abbrev pub OnlyLastIsEmpty : List Derived → Type 0
OnlyLastIsEmpty [] = ⊥
OnlyLastIsEmpty (s ∷ []) = s.clause.lits ≡ []
OnlyLastIsEmpty (s ∷ t ∷ steps) = IsNonempty s × OnlyLastIsEmpty (t ∷ steps)

-- accepted steps to the empty clause, of which the others are no more than the budget
pub record IsRefutation (cnf : Cnf) (budget : Option ℕ) (steps : List Derived) : Type 0 where
  pub accepted : AreAccepted cnf.variables cnf.clauses steps
  pub empty : OnlyLastIsEmpty steps
  pub within : IfSome budget (λ most. length steps ≤ most + 1)

-- each literal of the one clause is one of the other
abbrev pub IsPartOf : Clause → Clause → Type 0
IsPartOf c d = All (Contains d.lits) c.lits

-- none of these clauses is a part of the clause
abbrev pub ContainsNone : List Clause → Clause → Type 0
ContainsNone clauses c = All (λ d. IsPartOf d c → ⊥) clauses

-- no step's clause contains a clause that stood before it, of the set or of an earlier step
abbrev pub AreNew : List Clause → List Derived → Type 0
AreNew clauses [] = Unit {0}
AreNew clauses (s ∷ steps) = ContainsNone clauses s.clause × AreNew (clauses ++ s.clause ∷ []) steps

-- as many accepted and nonempty steps as the budget allows, each of which is new, and so few that the
-- assignments are not exhausted
pub record IsSpent (cnf : Cnf) (budget : Option ℕ) (steps : List Derived) : Type 0 where
  pub most : ℕ
  pub given : budget ≡ Some most
  pub count : length steps ≡ most
  pub accepted : AreAccepted cnf.variables cnf.clauses steps
  pub nonempty : AllByRecursion IsNonempty steps
  pub new : AreNew cnf.clauses steps
  pub few : most < 2 ^ (cnf.variables + 1)

-- what each answer says
abbrev pub Answers : Cnf → Option ℕ → Solved → Type 0
Answers cnf budget (Satisfied values) = IsModel cnf values.items
Answers cnf budget (Refuted steps) = IsRefutation cnf budget steps.items
Answers cnf budget (Spent steps) = IsSpent cnf budget steps.items
