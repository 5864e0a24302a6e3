use Rattle.std.proofs.Common.{◌≡◌, map, take}
use Rattle.sw_renaming.specs.Renamed.{renamed}
use Rattle.sw_renaming.proofs.renaming.Renaming.+formulas.Given as goal

abbrev pub invariant-formulas-loop-formula : goal.invariant-formulas-loop-formula
invariant-formulas-loop-formula l = l.all ≡ map (renamed l.self.protocol.now l.self.transition.now l.moment) (take l.formula-index l.formulas)
