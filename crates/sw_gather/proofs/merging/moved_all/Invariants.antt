use Rattle.std.proofs.Common.{◌≡◌, ◌+◌, length, map, take}
use Rattle.sw_core.specs.Machine.{AreBelow}
use Rattle.sw_gather.specs.Gathers.{moved_by}
use Rattle.sw_gather.proofs.merging.moved_all.Given as goal

abbrev pub invariant-loop-place : goal.invariant-loop-place
invariant-loop-place l = record {
  moved : l.all.items ≡ map (moved_by l.before l.places) (take l.place-index l.by);
  within : AreBelow (l.before + length l.places) (take l.place-index l.by);
}
