use Rattle.std.proofs.Common.{length}
use Rattle.sw_instances.proofs.instances.+choices.Given as goal

abbrev pub decreases-choices : goal.decreases-choices
decreases-choices l = length l.sorts.now
