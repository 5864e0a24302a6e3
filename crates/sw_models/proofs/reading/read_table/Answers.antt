use Rattle.std.proofs.Common.{refl}
use Rattle.sw_models.proofs.Faults.{no_table, wrong_table}
use Rattle.sw_models.proofs.reading.read_table.Goals as goal

pub returns-in_default-2 : goal.returns-in_default-2
returns-in_default-2 c apart =
    no_table c.args.sizes.now c.args.at c.args.symbol.now c.kind_word-word.result.now c.as_str-name.result.now c.in-Some.body.now c.in-Some.below.now c.args.bytes.now
    c.kind_word-word.ensures c.as_str-name.ensures c.in-Some.ensures (rw c.in_default-2.is at c.in_ok-table.ensures)

pub returns-in-Some-table_fault : goal.returns-in-Some-table_fault
returns-in-Some-table_fault c apart =
    wrong_table c.args.sizes.now c.args.at _ c.args.symbol.now c.in-Some-2.table c.in-Some-table_fault.fault c.kind_word-word.result.now c.as_str-name.result.now c.in-Some.body.now c.in-Some.below.now c.args.bytes.now
    c.kind_word-word.ensures c.as_str-name.ensures c.in-Some.ensures (rw c.in-Some-2.is at c.in_ok-table.ensures) refl c.in-Some-table_fault.ensures
