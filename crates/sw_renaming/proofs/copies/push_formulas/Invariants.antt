use Rattle.std.proofs.Common.{◌≡◌, ◌++◌, take}
use Rattle.sw_renaming.proofs.copies.push_formulas.Given as goal

abbrev pub invariant-loop-formula : goal.invariant-loop-formula
invariant-loop-formula l = l.all ≡ l.initial.all ++ take l.formula-index l.formulas
