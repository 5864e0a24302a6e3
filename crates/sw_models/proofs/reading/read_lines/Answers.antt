use Rattle.std.proofs.Common.{arith, rules}
use Rattle.std.proofs.lemmas.Bool.Decides.{nat_tests}
use Rattle.sw_models.specs.Reading.{HasText}
use Rattle.sw_models.proofs.Whole.{told_on, no_head, sizes_failed, tables_failed, too_long, all_read, none_from_length}
use Rattle.sw_models.proofs.reading.read_lines.Goals as goal

pub returns-in_default : goal.returns-in_default
returns-in_default c = no_head c.args.sig.now c.args.text.now c.in_default.ensures

pub returns-in_err-sizes : goal.returns-in_err-sizes
returns-in_err-sizes c =
    told_on c.from_residual.result (HasText c.args.sig.now c.args.text.now) c.in_err-sizes.field-0.0 c.from_residual.ensures.1
    (sizes_failed c.args.sig.now c.args.end c.args.text.now c.in-Some.body.now c.as_slice.result.now c.in_err-sizes.field-0.0 c.requires c.in-Some.ensures c.as_slice.ensures c.in_err-sizes.ensures)

pub returns-in_err-tables : goal.returns-in_err-tables
returns-in_err-tables c =
    told_on c.from_residual-in_err-tables.result (HasText c.args.sig.now c.args.text.now) c.in_err-tables.field-0.0 c.from_residual-in_err-tables.ensures.1
    (tables_failed c.args.sig.now c.args.end c.args.text.now c.in-Some.body.now c.as_slice.result.now c.in_ok-sizes.sizes c.as_slice-2.result.now c.in_ok-sizes.rest.now c.as_slice-symbols.result.now
    c.in_err-tables.field-0.0 c.requires c.in-Some.ensures c.as_slice.ensures c.in_ok-sizes.ensures c.as_slice-2.ensures c.as_slice-symbols.ensures c.in_err-tables.ensures)

pub returns-then-not-is_empty : goal.returns-then-not-is_empty
returns-then-not-is_empty c =
    too_long c.args.sig.now c.args.end c.args.text.now c.in-Some.body.now c.as_slice.result.now c.in_ok-sizes.sizes c.as_slice-2.result.now c.in_ok-sizes.rest.now c.as_slice-symbols.result.now
    c.in_ok-tables.tables c.in_ok-tables.rest.now c.requires c.in-Some.ensures c.as_slice.ensures c.in_ok-sizes.ensures c.as_slice-2.ensures c.as_slice-symbols.ensures c.in_ok-tables.ensures
    (search rules)

pub returns : goal.returns
returns c =
    all_read c.args.sig.now c.args.end c.args.text.now c.in-Some.body.now c.as_slice.result.now c.in_ok-sizes.sizes c.as_slice-2.result.now c.in_ok-sizes.rest.now c.as_slice-symbols.result.now
    c.in_ok-tables.tables c.in_ok-tables.rest.now c.requires c.in-Some.ensures c.as_slice.ensures c.in_ok-sizes.ensures c.as_slice-2.ensures c.as_slice-symbols.ensures c.in_ok-tables.ensures
    (none_from_length c.in_ok-tables.rest.now (grind (arith, nat_tests)))
