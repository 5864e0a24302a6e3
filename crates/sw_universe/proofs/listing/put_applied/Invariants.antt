use Rattle.std.proofs.Common.{◌≡◌, ◌++◌, map, take, false}
use Rattle.sw_logic.specs.declared.syntax.Term.TheVariants.{Apply}
use Rattle.sw_universe.proofs.listing.put_applied.Given as goal

abbrev pub invariant-loop-tuple : goal.invariant-loop-tuple
invariant-loop-tuple l = l.terms ≡ l.initial.terms ++ map (Apply l.number false) (take l.tuple-index l.tuples)
