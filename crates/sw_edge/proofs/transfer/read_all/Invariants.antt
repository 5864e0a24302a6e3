use Rattle.std.proofs.Common.{◌≡◌, ◌≤◌, ◌+◌, ◌-◌, vec_len}
use Rattle.sw_edge.specs.Edge.{Loses}
use Rattle.sw_edge.proofs.transfer.read_all.Given as goal

-- the bytes so far are those that were taken, and they are within the limit
abbrev pub invariant-loop-n : goal.invariant-loop-n
invariant-loop-n g l = record {
  taken : Loses (g.S.Source.left l.fn.source) (g.S.Source.left l.source) l.all.items;
  within : vec_len l.all ≤ l.limit;
  faults : g.S.Source.faults l.fn.source ≤ g.S.Source.faults l.source;
  size : vec_len l.chunk ≡ 65536;
}

-- how many bytes may still come, the one past the limit among them
abbrev pub decreases-loop-n : goal.decreases-loop-n
decreases-loop-n g l = l.limit + 1 - vec_len l.all
