-- The names so far are there.
use Rattle.std.proofs.Common.{◌≡◌, map, take}
use Rattle.sw_logic.specs.declared.syntax.Symbol.{Symbol}
use Rattle.sw_text.proofs.tables.symbols_of.Given as goal

abbrev pub invariant-loop-symbol : goal.invariant-loop-symbol
invariant-loop-symbol l = l.table ≡ map (λ (s : Symbol). s.name) (take l.symbol-index l.symbols)
