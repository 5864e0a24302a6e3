use Rattle.std.proofs.Common.{◌≡◌, map, take, slice_index}
use Rattle.sw_skolem.proofs.existentials.Outer.symbol.Given as goal

abbrev pub invariant-loop-universal : goal.invariant-loop-universal
invariant-loop-universal l = l.args ≡ map (slice_index l.self.sorts) (take l.universal-index l.universals)
