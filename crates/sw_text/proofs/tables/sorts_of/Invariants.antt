-- The names so far are there.
use Rattle.std.proofs.Common.{◌≡◌, take}
use Rattle.sw_text.proofs.tables.sorts_of.Given as goal

abbrev pub invariant-loop-sort : goal.invariant-loop-sort
invariant-loop-sort l = l.table ≡ take l.sort-index l.sorts
