-- What a refusal of strata says.
use Rattle.std.specs.Prelude.{List}
use Rattle.sw_logic.specs.declared.syntax.Edge.{Edge}
use Rattle.sw_strata.specs.declared.ranks.StrataError.{StrataError}
use Rattle.sw_strata.specs.declared.ranks.StrataError.TheVariants.{Cycle, Memory}
use Rattle.sw_logic.specs.Strata.{FirstOnCycle}

abbrev pub IsStrataFault : List Edge → StrataError → Type 0
IsStrataFault edges (Cycle sort) = FirstOnCycle edges sort
IsStrataFault edges Memory = Unit {0}
