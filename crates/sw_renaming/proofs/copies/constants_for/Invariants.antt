use Rattle.std.proofs.Common.{◌≡◌, map, take}
use Rattle.sw_renaming.specs.Symbols.{constant_for}
use Rattle.sw_renaming.proofs.copies.constants_for.Given as goal

abbrev pub invariant-loop-param : goal.invariant-loop-param
invariant-loop-param l = l.constants ≡ map constant_for (take l.param-index l.params)
