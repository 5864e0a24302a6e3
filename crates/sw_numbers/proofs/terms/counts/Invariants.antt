use Rattle.std.proofs.Common.{◌≡◌, map, take, length}
use Rattle.sw_numbers.proofs.terms.counts.Given as goal

abbrev pub invariant-loop-list : goal.invariant-loop-list
invariant-loop-list l = l.counts ≡ map length (take l.list-index l.universe.lists)
