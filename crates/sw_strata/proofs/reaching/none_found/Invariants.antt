use Rattle.std.proofs.Common.{◌≡◌, map, false, ℕ}
use Rattle.std.specs.List.{range_with_len}
use Rattle.sw_strata.proofs.reaching.none_found.Given as goal

abbrev pub invariant-loop : goal.invariant-loop
invariant-loop l = l.found ≡ map (λ (k : ℕ). false) (range_with_len 0 l.counter)
