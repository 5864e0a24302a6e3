use Rattle.std.proofs.Common.{◌≡◌, ◌≤◌, length}
use Rattle.sw_base_tests.proofs.log.appends_thousand.Given as goal

abbrev pub invariant-loop : goal.invariant-loop
invariant-loop g l = (l.seat.object ≡ l.log) × (l.under ≤ length l.seat.view.seen)
