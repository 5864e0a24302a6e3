-- The copies so far.
use Rattle.std.proofs.Common.{◌≡◌, take}
use Rattle.sw_logic.proofs.copy.copy_binders.Given as goal

abbrev pub invariant-loop-binder : goal.invariant-loop-binder
invariant-loop-binder l = l.copies ≡ take l.binder-index l.binders
