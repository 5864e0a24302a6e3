use Rattle.std.proofs.Common.{◌≡◌, take}
use Rattle.std.specs.List.{sum_by}
use Rattle.sw_universe.specs.Sizes.{capped}
use Rattle.sw_universe.specs.Counting.{count_in, congruences_in}
use Rattle.sw_universe.proofs.sizes.all_congruence.Given as goal

abbrev pub invariant-loop-symbol : goal.invariant-loop-symbol
invariant-loop-symbol l = l.total ≡ capped (sum_by (congruences_in (count_in l.counts)) (take l.symbol-index l.symbols))
