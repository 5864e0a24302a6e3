use Rattle.std.proofs.Common.{◌≡◌, map}
use Rattle.std.specs.List.{range_with_len}
use Rattle.sw_universe.specs.Counting.{constant_count}
use Rattle.sw_universe.proofs.counting.all_constants.Given as goal

abbrev pub invariant-loop-sort : goal.invariant-loop-sort
invariant-loop-sort l = l.counts ≡ map (constant_count l.symbols) (range_with_len 0 l.sort)
