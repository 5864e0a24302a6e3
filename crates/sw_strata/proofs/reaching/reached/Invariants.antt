use Rattle.std.proofs.Common.{◌≡◌, ℕ, true, not, length}
use Rattle.std.specs.List.{count_by}
use Rattle.sw_logic.specs.Strata.{Leads}
use Rattle.sw_strata.specs.Reaching.{is_found}
use Rattle.sw_strata.proofs.reaching.reached.Given as goal

abbrev pub invariant-loop-edge : goal.invariant-loop-edge
invariant-loop-edge l = (length l.found ≡ l.sorts) × ((k : ℕ) → is_found l.found k ≡ true → Leads l.edges l.start k)

abbrev pub decreases-loop-edge : goal.decreases-loop-edge
decreases-loop-edge l = count_by not l.found
