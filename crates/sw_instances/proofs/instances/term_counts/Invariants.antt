use Rattle.std.proofs.Common.{◌≡◌, map, take, length}
use Rattle.sw_instances.proofs.instances.term_counts.Given as goal

abbrev pub invariant-loop-list : goal.invariant-loop-list
invariant-loop-list l = l.all ≡ map length (take l.list-index l.universe.lists)
