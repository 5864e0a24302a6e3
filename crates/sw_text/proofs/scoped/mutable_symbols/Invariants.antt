-- Of the symbols so far those that may change are listed.
use Rattle.std.proofs.Common.{◌≡◌, take}
use Rattle.sw_text.specs.Scoped.{mutable_from}
use Rattle.sw_text.proofs.scoped.mutable_symbols.Given as goal

abbrev pub invariant-loop-i : goal.invariant-loop-i
invariant-loop-i l = l.listed ≡ mutable_from 0 (take l.i l.signature.symbols)
