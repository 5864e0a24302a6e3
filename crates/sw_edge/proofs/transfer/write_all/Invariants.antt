use Rattle.std.proofs.Common.{◌≡◌, ◌≤◌, ◌++◌, ℕ, List, length}
use Rattle.sw_edge.specs.Edge.{Gains}
use Rattle.sw_edge.proofs.transfer.write_all.Given as goal

-- the sink gained the bytes before the rest
abbrev pub invariant-loop-rest : goal.invariant-loop-rest
invariant-loop-rest g l = record {
  gained : (done : List ℕ) × (l.bytes ≡ done ++ l.rest) × Gains (g.O.Sink.held l.fn.sink) (g.O.Sink.held l.sink) done;
  faults : g.O.Sink.faults l.fn.sink ≤ g.O.Sink.faults l.sink;
}

abbrev pub decreases-loop-rest : goal.decreases-loop-rest
decreases-loop-rest g l = length l.rest
