use Rattle.std.proofs.Common.{◌≡◌, ◌≤◌, drop, length}
use Rattle.sw_universe.specs.Sizes.{capped}
use Rattle.sw_universe.specs.Counting.{count_in, choices_in}
use Rattle.sw_universe.proofs.counting.choices.Given as goal

abbrev pub invariant-loop-at : goal.invariant-loop-at
invariant-loop-at l = (l.all ≡ capped (choices_in (count_in l.counts) (drop l.at l.sorts))) × (l.at ≤ length l.sorts)

abbrev pub decreases-loop-at : goal.decreases-loop-at
decreases-loop-at l = l.at
