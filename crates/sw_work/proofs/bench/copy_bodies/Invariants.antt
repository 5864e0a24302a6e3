use Rattle.std.proofs.Common.{◌≡◌, take}
use Rattle.sw_work.specs.Works.{bodies_of}
use Rattle.sw_work.proofs.bench.copy_bodies.Given as goal

abbrev pub invariant-loop-entry : goal.invariant-loop-entry
invariant-loop-entry l = l.bodies ≡ bodies_of (take l.entry-index l.entries)
