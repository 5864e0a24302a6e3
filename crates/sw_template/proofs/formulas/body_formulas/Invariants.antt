-- The formulas so far.
use Rattle.std.proofs.Common.{◌≡◌, map, take}
use Rattle.sw_meaning.specs.Space.{all_of}
use Rattle.sw_meaning.specs.Classes.{cube_formulas}
use Rattle.sw_template.proofs.formulas.body_formulas.Given as goal

abbrev pub invariant-loop-cube : goal.invariant-loop-cube
invariant-loop-cube l = l.formulas ≡ map all_of (map (cube_formulas l.literals l.cubes) (take l.cube-index l.body))
