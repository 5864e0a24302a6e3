use Rattle.std.proofs.Common.{take}
use Rattle.std.specs.List.{AllZip}
use Rattle.sw_gather.specs.Gathers.{IsMovedBy}
use Rattle.sw_gather.proofs.merging.merged_all.Given as goal

abbrev pub invariant-loop-one : goal.invariant-loop-one
invariant-loop-one l = AllZip (IsMovedBy l.before l.places) (take l.one-index l.settled) l.all
