use Rattle.std.proofs.Common.{◌≡◌, take}
use Rattle.sw_renaming.specs.Symbols.{copies_of}
use Rattle.sw_renaming.proofs.copies.symbols_of.Given as goal

abbrev pub invariant-loop-number : goal.invariant-loop-number
invariant-loop-number l = l.copies ≡ copies_of l.symbols (take l.number-index l.listed)
