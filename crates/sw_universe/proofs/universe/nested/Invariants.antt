use Rattle.std.proofs.Common.{◌≡◌, map}
use Rattle.std.specs.List.{range_with_len}
use Rattle.sw_universe.specs.GroundTerms.{terms_within}
use Rattle.sw_universe.proofs.universe.nested.Given as goal

abbrev pub invariant-loop-depth : goal.invariant-loop-depth
invariant-loop-depth l = l.lists ≡ map (terms_within l.sig l.depth) (range_with_len 0 l.sorts)
