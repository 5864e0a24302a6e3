use Rattle.sw_protocol.proofs.OneReading.{ranked_has}
use Rattle.sw_run.proofs.Rows.{declared_fault, fault_passed, cycle_first, cycle_told}
use Rattle.sw_run.proofs.input.read_text.Goals as goal

pub returns-in_err-protocol-clause-fault : goal.returns-in_err-protocol-clause-fault
returns-in_err-protocol-clause-fault c =
    fault_passed c.args.bytes.now _ c.from_residual.result c.from_residual.ensures.1 (declared_fault c.args.bytes.now c.in_err-protocol.field-0.0 c.in_err-protocol.ensures.has)

pub strata_with-requires-clause-well_formed : goal.strata_with-requires-clause-well_formed
strata_with-requires-clause-well_formed c = c.declared_is_well_formed.ensures c.args.bytes.now c.in_ok-protocol.protocol c.in_ok-protocol.ensures.has

pub returns-in-Ok-clause-text : goal.returns-in-Ok-clause-text
returns-in-Ok-clause-text c = ranked_has c.args.bytes.now c.in_ok-protocol.protocol _ c.in-Ok.field-0 c.in_ok-protocol.ensures.has c.new-extra.ensures c.in-Ok.ensures

pub returns-in-Err-Cycle-clause-fault : goal.returns-in-Err-Cycle-clause-fault
returns-in-Err-Cycle-clause-fault c =
    cycle_told c.args.bytes.now c.in_ok-protocol.protocol c.in-Err-Cycle.sort c.not_stratified.result c.in_ok-protocol.ensures.has
    (cycle_first c.in_ok-protocol.protocol _ c.in-Err-Cycle.field-0 _ _ c.new-extra.ensures c.in-Err-Cycle.ensures c.in-Err-Cycle.field-0-is c.in-Err-Cycle.sort-is)
    c.not_stratified.ensures

pub returns-in-Ok-clause-well_formed : goal.returns-in-Ok-clause-well_formed
returns-in-Ok-clause-well_formed c = c.declared_is_well_formed.ensures c.args.bytes.now c.in_ok-protocol.protocol c.in_ok-protocol.ensures.has
