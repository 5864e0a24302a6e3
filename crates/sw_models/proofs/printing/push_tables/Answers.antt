use Rattle.std.proofs.Common.{length, rules}
use Rattle.std.proofs.lemmas.Slice.Zip.{zip_end}
use Rattle.sw_models.proofs.Printed.{tables_written}
use Rattle.sw_models.proofs.printing.push_tables.Goals as goal

pub returns : goal.returns
returns c =
    tables_written _ _ c.args.symbols.now c.args.tables.now (length c.loop-symbol.yielded)
    (zip_end c.args.symbols.now c.args.tables.now c.loop-symbol.yielded c.into_iter-symbol-iterator.result c.loop-symbol.symbol-iterator c.next.new.self c.next.result (search rules) (search rules) c.loop-symbol.yielded_by c.in-None.is c.next.ensures.steps)
    c.loop-symbol.invariant
