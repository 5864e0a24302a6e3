-- The tables so far are read.
use Rattle.sw_models.proofs.Onward.{TablesSoFar}
use Rattle.sw_models.proofs.reading.read_tables.Given as goal

abbrev pub invariant-loop-symbol : goal.invariant-loop-symbol
invariant-loop-symbol l = TablesSoFar l.end l.symbols l.symbol-index l.sizes l.tables l.rest l.bytes
