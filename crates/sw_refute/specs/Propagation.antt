-- Steps by reverse unit propagation with hints, as in LRAT: what a step has to be to be accepted.
use Rattle.std.specs.Prelude.{◌≡◌, ◌⊎◌, ℕ, List, [], ◌∷◌, ◌++◌, map, Some, slice_get, All, Contains}
use Rattle.sw_refute.specs.declared.clauses.Lit.{Lit}
use Rattle.sw_refute.specs.declared.clauses.Clause.{Clause}
use Rattle.sw_refute.specs.declared.clauses.Derived.{Derived}
use Rattle.sw_refute.specs.Satisfaction.{negation, IsOver}

-- no literal stands beside its negation
abbrev pub IsConsistent : Clause → Type 0
IsConsistent c = (l : Lit) → Contains c.lits l → Contains c.lits (negation l) → ⊥

-- where these literals are true, the literal is false
abbrev pub IsFalse : List Lit → Lit → Type 0
IsFalse known l = Contains known (negation l)

-- where these literals are true, every literal of the clause is false
abbrev pub IsConflicting : List Lit → Clause → Type 0
IsConflicting known c = All (IsFalse known) c.lits

-- where these literals are true, the clause has one literal that is not false, and it is unassigned;
-- equal literals count as one
pub record IsUnit (known : List Lit) (c : Clause) (l : Lit) : Type 0 where
  pub among : Contains c.lits l
  pub unassigned : (Contains known l → ⊥) × (IsFalse known l → ⊥)
  pub others : All (λ m. (m ≡ l) ⊎ IsFalse known m) c.lits

-- unit propagation from these literals by the clauses of these numbers, in order: each is a unit and
-- makes its literal true, but for the last, which is false
pub data Propagates (clauses : List Clause) : List Lit → List ℕ → Type 0 where
  conflict : {known : List Lit} (hint : ℕ) (c : Clause) → slice_get clauses hint ≡ Some c → IsConflicting known c → Propagates clauses known (hint ∷ [])
  unit : {known : List Lit} {hints : List ℕ} (hint : ℕ) (c : Clause) (l : Lit) → slice_get clauses hint ≡ Some c → IsUnit known c l → Propagates clauses (l ∷ known) hints → Propagates clauses known (hint ∷ hints)

-- after these clauses the step is accepted: its clause is over the variables and consistent, and
-- the hints lead from the negations of its literals to a conflict
pub record IsAccepted (variables : ℕ) (clauses : List Clause) (s : Derived) : Type 0 where
  pub over : IsOver variables s.clause
  pub consistent : IsConsistent s.clause
  pub propagates : Propagates clauses (map negation s.clause.lits) s.hints

-- each step is accepted after the clauses and the steps before it
abbrev pub AreAccepted : ℕ → List Clause → List Derived → Type 0
AreAccepted variables clauses [] = Unit {0}
AreAccepted variables clauses (s ∷ steps) = IsAccepted variables clauses s × AreAccepted variables (clauses ++ s.clause ∷ []) steps

-- the clauses of these steps
abbrev pub clauses_of : List Derived → List Clause
clauses_of steps = map (λ s. s.clause) steps

-- the last step has the empty clause
abbrev pub EndsEmpty : List Derived → Type 0
EndsEmpty [] = ⊥
EndsEmpty (s ∷ []) = s.clause.lits ≡ []
EndsEmpty (s ∷ t ∷ steps) = EndsEmpty (t ∷ steps)
