use Rattle.sw_models.proofs.Onward.{more_tables, fail_table}
use Rattle.sw_models.proofs.Whole.{handed_on}
use Rattle.sw_models.proofs.reading.read_tables.Goals as goal

pub returns-in_err-table : goal.returns-in_err-table
returns-in_err-table c =
    handed_on c.from_residual.result _ _ c.in_err-table.field-0.0 c.from_residual.ensures.1
    (λ apart. fail_table c.args.end c.args.symbols.now c.loop-symbol.symbol-index c.args.sizes.now c.loop-symbol.tables c.loop-symbol.rest.now c.args.bytes.now c.symbol-item.result
    c.in_err-table.field-0.0 c.loop-symbol.invariant c.loop-symbol-test.true c.symbol-item.is (c.in_err-table.ensures apart))

pub loop-symbol-preserved : goal.loop-symbol-preserved
loop-symbol-preserved c =
    more_tables c.args.end c.args.symbols.now c.loop-symbol.symbol-index c.args.sizes.now c.loop-symbol.tables c.push.new.self c.loop-symbol.rest.now c.args.bytes.now c.in_ok-table.below.now
    c.symbol-item.result c.in_ok-table.table c.loop-symbol.invariant c.loop-symbol-test.true c.symbol-item.is c.in_ok-push.ensures.ok c.in_ok-table.ensures
