use Rattle.std.proofs.Common.{◌≡◌, ◌++◌, map, take}
use Rattle.sw_meaning.specs.declared.protocol.Transition.{Transition}
use Rattle.sw_meaning.specs.Edges.{asserted, chosen}
use Rattle.sw_protocol.proofs.strata.push_chosen.Given as goal

abbrev pub invariant-loop-transition : goal.invariant-loop-transition
invariant-loop-transition l = l.polars ≡ l.initial.polars ++ map (λ (t : Transition). asserted (chosen t)) (take l.transition-index l.transitions)
