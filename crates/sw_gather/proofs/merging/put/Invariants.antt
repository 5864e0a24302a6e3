use Rattle.std.proofs.Common.{◌≡◌, ◌-◌, ◌+◌, length}
use Rattle.sw_gather.proofs.merging.put.Given as goal

abbrev pub decreases-loop-table : goal.decreases-loop-table
decreases-loop-table l = (l.index + 1) - length l.table.items
