-- The greatest so far.
use Rattle.std.proofs.Common.{◌≡◌, ◌-◌, ◌^◌, map, take, min}
use Rattle.sw_trees.specs.Measures.{greatest, term_nestings}
use Rattle.sw_trees.proofs.measures.+terms.Given as goal

abbrev pub invariant-deepest_of-loop-term : goal.invariant-deepest_of-loop-term
invariant-deepest_of-loop-term l = l.most ≡ min (2 ^ 32 - 1) (greatest (map term_nestings (take l.term-index l.terms)))
