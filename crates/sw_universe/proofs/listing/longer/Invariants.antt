use Rattle.std.proofs.Common.{◌≡◌, ◌∷◌, map, take, List}
use Rattle.std.specs.List.{flat_map}
use Rattle.sw_logic.specs.declared.syntax.Term.{Term}
use Rattle.sw_universe.proofs.listing.longer.Given as goal

abbrev pub invariant-loop-first : goal.invariant-loop-first
invariant-loop-first l = l.tuples ≡ flat_map (λ (x : Term). map (λ (tuple : List Term). x ∷ tuple) l.tails) (take l.first-index l.firsts)
