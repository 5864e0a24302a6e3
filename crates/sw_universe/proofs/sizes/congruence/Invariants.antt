use Rattle.std.proofs.Common.{◌≡◌, ◌*◌, take, ℕ}
use Rattle.std.specs.List.{sum_by}
use Rattle.sw_universe.specs.Sizes.{capped}
use Rattle.sw_universe.specs.Counting.{count_in, choices_in}
use Rattle.sw_universe.proofs.sizes.congruence.Given as goal

abbrev pub invariant-loop-sort : goal.invariant-loop-sort
invariant-loop-sort l = l.total ≡ capped (sum_by (λ (sort : ℕ). choices_in (count_in l.counts) l.symbol.args * count_in l.counts sort) (take l.sort-index l.sort-items))
