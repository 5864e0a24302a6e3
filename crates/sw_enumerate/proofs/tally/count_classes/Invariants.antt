use Rattle.std.proofs.Common.{◌≡◌, ◌≤◌, ◌*◌, ◌^◌, length}
use Rattle.sw_meaning.specs.Classes.{classes_of}
use Rattle.sw_enumerate.proofs.tally.count_classes.Given as goal

abbrev pub invariant-loop-n : goal.invariant-loop-n
invariant-loop-n l = (l.all ≡ length (classes_of l.n l.cubes)) × (l.all ≤ l.n * 1048577 ^ 6)
