use Rattle.std.proofs.Common.{take}
use Rattle.sw_breadth.specs.Records.{AreLiveAt}
use Rattle.sw_breadth.proofs.living.are_live.Given as goal

abbrev pub invariant-loop-place : goal.invariant-loop-place
invariant-loop-place l = AreLiveAt l.protocol l.list l.before l.kept (take l.place-index l.places)
