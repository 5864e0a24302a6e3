-- Truth of literals, clauses and sets of clauses under an assignment.
use Rattle.std.specs.Prelude.{◌≡◌, ◌==◌, ◌+◌, ◌-◌, ◌/◌, ◌%◌, ◌<◌, ℕ, Bool, true, not, List, if◌then◌else◌, All}
use Rattle.std.specs.List.{list_any, list_all}
use Rattle.sw_refute.specs.declared.clauses.Lit.{Lit}
use Rattle.sw_refute.specs.declared.clauses.Clause.{Clause}
use Rattle.sw_refute.specs.declared.clauses.Cnf.{Cnf}

-- a truth value for each variable, by its number
abbrev pub Assignment : Type 0
Assignment = ℕ → Bool

abbrev pub variable : Lit → ℕ
variable l = l.0 / 2

abbrev pub is_positive : Lit → Bool
is_positive l = l.0 % 2 == 0

-- the literal of the same variable with the other sign
abbrev pub negation : Lit → Lit
negation l = record { 0 = if is_positive l then l.0 + 1 else l.0 - 1 }

abbrev pub lit_holds : Assignment → Lit → Bool
lit_holds a l = if is_positive l then a (variable l) else not (a (variable l))

-- some literal is true
abbrev pub clause_holds : Assignment → Clause → Bool
clause_holds a c = list_any (lit_holds a) c.lits

-- every clause is true
abbrev pub all_hold : Assignment → List Clause → Bool
all_hold a clauses = list_all (clause_holds a) clauses

-- the clause is true wherever all of these are
abbrev pub Follows : List Clause → Clause → Type 0
Follows clauses c = (a : Assignment) → all_hold a clauses ≡ true → clause_holds a c ≡ true

-- no assignment makes all of these true
abbrev pub AreUnsatisfiable : List Clause → Type 0
AreUnsatisfiable clauses = (a : Assignment) → all_hold a clauses ≡ true → ⊥

-- every literal is of a variable below this number
abbrev pub IsOver : ℕ → Clause → Type 0
IsOver variables c = All (λ l. variable l < variables) c.lits

-- every clause of the set is over its variables
abbrev pub IsWellFormed : Cnf → Type 0
IsWellFormed cnf = All (IsOver cnf.variables) cnf.clauses
