use Rattle.std.proofs.Common.{◌≡◌, map, ℕ}
use Rattle.std.specs.List.{range_with_len}
use Rattle.sw_strata.proofs.ranks.zeros.Given as goal

abbrev pub invariant-loop : goal.invariant-loop
invariant-loop l = l.numbers ≡ map (λ (k : ℕ). 0) (range_with_len 0 l.counter)
