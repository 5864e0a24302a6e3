use Rattle.std.proofs.Common.{◌≡◌, ◌++◌, ◌∷◌, map, take, List}
use Rattle.sw_logic.specs.declared.syntax.Term.{Term}
use Rattle.sw_universe.proofs.listing.put_longer.Given as goal

abbrev pub invariant-loop-tail : goal.invariant-loop-tail
invariant-loop-tail l = l.tuples ≡ l.initial.tuples ++ map (λ (tuple : List Term). l.first ∷ tuple) (take l.tail-index l.tails)
