-- The copies so far.
use Rattle.std.proofs.Common.{◌≡◌, take}
use Rattle.sw_logic.proofs.copy.+formulas.Given as goal

abbrev pub invariant-copy_formulas-loop-part : goal.invariant-copy_formulas-loop-part
invariant-copy_formulas-loop-part l = l.copies ≡ take l.part-index l.parts
