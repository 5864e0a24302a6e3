use Rattle.std.proofs.Common.{◌≡◌, map}
use Rattle.std.specs.List.{range_with_len}
use Rattle.sw_universe.specs.Counting.{count_over}
use Rattle.sw_universe.proofs.counting.deeper.Given as goal

abbrev pub invariant-loop-sort : goal.invariant-loop-sort
invariant-loop-sort l = l.counts ≡ map (count_over l.symbols l.counted) (range_with_len 0 l.sort)
