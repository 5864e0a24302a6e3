-- When there is no space of a template.
use Rattle.std.specs.Prelude.{◌≡◌, ℕ, ◌<◌, ◌≤◌, ◌^◌, length}
use Rattle.sw_logic.specs.declared.syntax.Signature.{Signature}
use Rattle.sw_meaning.specs.declared.template.Template.{Template}
use Rattle.sw_meaning.specs.Classes.{atoms, cubes, classes}
use Rattle.sw_template.specs.declared.errors.CubesError.{CubesError}
use Rattle.sw_template.specs.Limits.{IsOver}
use Rattle.sw_enumerate.specs.declared.errors.SpaceError.{SpaceError}

-- there are more classes than 2^32, and this is their number
pub record IsTooLarge (classes n : ℕ) : Type 0 where
  pub over : 2 ^ 32 < classes
  pub is : n ≡ classes

-- the first count that passes its limit, those before it being within theirs; want of memory says nothing
abbrev pub RefusesSpace : Signature → Template → SpaceError → Type 0
RefusesSpace sig t (SpaceError.AtomsOver n) = IsOver 512 (length (atoms sig t)) n
RefusesSpace sig t (SpaceError.CubesOver n) = (length (atoms sig t) ≤ 512) × IsOver 1048576 (length (cubes sig t)) n
RefusesSpace sig t (SpaceError.SpaceTooLarge n) = (length (atoms sig t) ≤ 512) × (length (cubes sig t) ≤ 1048576) × IsTooLarge (length (classes sig t)) n
RefusesSpace sig t SpaceError.Memory = Unit {0}

-- why there are no cubes is why there is no space
abbrev pub of_cubes : CubesError → SpaceError
of_cubes (CubesError.CubesOver n) = SpaceError.CubesOver n
of_cubes CubesError.Memory = SpaceError.Memory
