use Rattle.std.proofs.Common.{◌-◌, length}
use Rattle.sw_scan.proofs.Cut.{IsCut}
use Rattle.sw_scan.proofs.scan.Given as goal

abbrev pub invariant-loop-at : goal.invariant-loop-at
invariant-loop-at l = IsCut l.text l.at l.tokens.items

abbrev pub decreases-loop-at : goal.decreases-loop-at
decreases-loop-at l = length l.text - l.at
