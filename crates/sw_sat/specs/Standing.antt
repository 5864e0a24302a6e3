-- What a clause is where some literals are true.
use Rattle.std.specs.Prelude.{List}
use Rattle.sw_refute.specs.declared.clauses.Lit.{Lit}
use Rattle.sw_refute.specs.declared.clauses.Clause.{Clause}
use Rattle.sw_refute.specs.Propagation.{IsUnit, IsConflicting}
use Rattle.sw_sat.specs.declared.propagate.Standing.{Standing}
use Rattle.sw_sat.specs.declared.propagate.Standing.TheVariants as standing
use Rattle.sw_sat.specs.Trail.{IsTrueClause, IsOpenClause}

-- what the clause is where these literals are true
abbrev pub StandsAs : List Lit → Clause → Standing → Type 0
StandsAs known c standing.Satisfied = IsTrueClause known c
StandsAs known c standing.Open = IsOpenClause known c
StandsAs known c (standing.Unit l) = IsUnit known c l
StandsAs known c standing.Falsified = IsConflicting known c
