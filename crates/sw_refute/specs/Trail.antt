-- What the check keeps of the literals that are true in a step.
use Rattle.std.specs.Prelude.{◌≡◌, ◌*◌, ◌<◌, ◌↔◌, ℕ, true, false, List, [], ◌∷◌, ◌++◌, length, slice_index_or, All, Contains}
use Rattle.sw_refute.specs.declared.clauses.Lit.{Lit}
use Rattle.sw_refute.specs.declared.clauses.Clause.{Clause}
use Rattle.sw_refute.specs.declared.trail.Trail.{Trail}
use Rattle.sw_refute.specs.declared.trail.Status.{Status}
use Rattle.sw_refute.specs.declared.trail.Status.TheVariants.{Conflicting, Unit as Single, Neither}
use Rattle.sw_refute.specs.Satisfaction.{variable}
use Rattle.sw_refute.specs.Propagation.{IsConflicting, IsUnit}

-- the table has two entries a variable, and is true at the literals of the list and nowhere else
pub record IsTrail (trail : Trail) : Type 0 where
  pub size : length trail.truth.items ≡ 2 * trail.variables
  pub entries : (l : Lit) → (slice_index_or trail.truth.items l.0 false ≡ true) ↔ Contains trail.lits.items l

-- every literal is of a variable below this number
abbrev pub AreOver : ℕ → List Lit → Type 0
AreOver variables lits = All (λ l. variable l < variables) lits

-- what the clause is where these literals are true
abbrev pub IsStatus : List Lit → Clause → Status → Type 0
IsStatus known c Conflicting = IsConflicting known c
IsStatus known c (Single l) = IsUnit known c l
IsStatus known c Neither = (IsConflicting known c → ⊥) × ((l : Lit) → IsUnit known c l → ⊥)

-- how the status of a clause changes by one more literal at its end
abbrev pub Extends : List Lit → Status → Lit → Status → Type 0
Extends known before l after = (lits : List Lit) → IsStatus known (record { lits = lits }) before → IsStatus known (record { lits = lits ++ l ∷ [] }) after
