use Rattle.std.proofs.Common.{take}
use Rattle.sw_numbers.specs.Firsts.{ArePlaced}
use Rattle.sw_numbers.proofs.terms.place_symbols.Given as goal

abbrev pub invariant-loop-i : goal.invariant-loop-i
invariant-loop-i l = ArePlaced l.counts l.kind (take l.i l.symbols) l.initial.next l.initial.firsts l.next l.firsts
