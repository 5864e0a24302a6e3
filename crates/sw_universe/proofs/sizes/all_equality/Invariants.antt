use Rattle.std.proofs.Common.{◌≡◌, ℕ}
use Rattle.std.specs.List.{sum_by, range_with_len}
use Rattle.sw_universe.specs.Sizes.{capped, equalities}
use Rattle.sw_universe.specs.Counting.{count_in}
use Rattle.sw_universe.proofs.sizes.all_equality.Given as goal

abbrev pub invariant-loop-sort : goal.invariant-loop-sort
invariant-loop-sort l = l.total ≡ capped (sum_by (λ (sort : ℕ). equalities (count_in l.counts sort)) (range_with_len 0 l.sort))
