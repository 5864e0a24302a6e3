-- The sizes so far are read.
use Rattle.sw_models.proofs.Onward.{SizesSoFar}
use Rattle.sw_models.proofs.reading.read_sizes.Given as goal

abbrev pub invariant-loop-sort : goal.invariant-loop-sort
invariant-loop-sort l = SizesSoFar l.end l.sorts l.sort-index l.sizes l.rest l.bytes
