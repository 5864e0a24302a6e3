use Rattle.std.proofs.Common.{◌≡◌, ◌++◌, take}
use Rattle.sw_template.specs.Edges.{edges_to}
use Rattle.sw_template.proofs.prefix.push_edges_to.Given as goal

abbrev pub invariant-loop-other : goal.invariant-loop-other
invariant-loop-other l = l.edges ≡ l.initial.edges ++ edges_to l.run (take l.other-index l.later)
