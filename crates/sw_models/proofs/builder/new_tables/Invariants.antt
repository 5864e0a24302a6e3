-- The tables so far are blank, and can be held.
use Rattle.std.proofs.Common.{◌≡◌, take, true}
use Rattle.sw_models.specs.Building.{blank_tables, counts_fit}
use Rattle.sw_models.proofs.builder.new_tables.Given as goal

abbrev pub invariant-loop-symbol : goal.invariant-loop-symbol
invariant-loop-symbol l =
    (l.tables.items ≡ blank_tables l.sizes (take l.symbol-index l.symbols)) × (counts_fit l.sizes (take l.symbol-index l.symbols) ≡ true)
