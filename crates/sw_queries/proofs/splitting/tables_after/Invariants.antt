use Rattle.std.proofs.Common.{◌≡◌, map}
use Rattle.std.specs.List.{range_with_len}
use Rattle.sw_renaming.specs.Renamed.{copy_of}
use Rattle.sw_queries.specs.Counterexamples.{table_in}
use Rattle.sw_queries.proofs.splitting.tables_after.Given as goal

abbrev pub invariant-loop-symbol : goal.invariant-loop-symbol
invariant-loop-symbol l = l.tables ≡ map (λ n. table_in l.structure (copy_of l.renaming.protocol.now l.renaming.transition.now n)) (range_with_len 0 l.symbol)
