-- How much may be open at once.
use Rattle.std.specs.Prelude.{◌≡◌, ◌≤◌, ◌-◌, ◌^◌, min}
use Rattle.sw_logic.specs.declared.variables.TheConstants.{VARIABLES}
use Rattle.sw_trees.specs.declared.limits.TheConstants.{NESTINGS, PATH}
use Rattle.sw_trees.specs.declared.limits.Open.{Open}
use Rattle.sw_trees.specs.Grammar.{Loads, Context}

-- a word goes past no limit
pub record IsWithin (l : Loads) : Type 0 where
  pub nestings : l.nestings ≤ NESTINGS
  pub path : l.path ≤ PATH
  pub variables : l.variables ≤ VARIABLES

-- these are the numbers of what is open, each no further than the greatest of 32 bits
pub record IsCount (c : Context) (open_now : Open) : Type 0 where
  pub nestings : open_now.nestings ≡ min (2 ^ 32 - 1) c.nestings
  pub iffs : open_now.iffs ≡ min (2 ^ 32 - 1) c.iffs
  pub variables : open_now.variables ≡ min (2 ^ 32 - 1) c.variables
