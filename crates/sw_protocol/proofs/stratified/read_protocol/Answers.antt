use Rattle.std.proofs.Common.{refl, Ok, Err}
use Rattle.sw_protocol.specs.declared.texts.ProtocolError.{ProtocolError}
use Rattle.sw_protocol.proofs.OneReading.{refused_has, ranked_has, cycle_has, no_other}
use Rattle.sw_protocol.proofs.stratified.read_protocol.Goals as goal

pub returns-in-Err-clause-has : goal.returns-in-Err-clause-has
returns-in-Err-clause-has c = refused_has c.args.text.now c.in-Err.fault c.in-Err.ensures.has

pub returns-in-Err-clause-no_other : goal.returns-in-Err-clause-no_other
returns-in-Err-clause-no_other c = no_other c.args.text.now (Err c.in-Err.fault) (refused_has c.args.text.now c.in-Err.fault c.in-Err.ensures.has)

pub strata_with-requires-clause-well_formed : goal.strata_with-requires-clause-well_formed
strata_with-requires-clause-well_formed c = c.declared_is_well_formed.ensures c.args.text.now c.in-Ok.protocol c.in-Ok.ensures.has

pub returns-in-Ok-strata_with-clause-has : goal.returns-in-Ok-strata_with-clause-has
returns-in-Ok-strata_with-clause-has c = ranked_has c.args.text.now c.in-Ok.protocol _ c.in-Ok-strata_with.field-0 c.in-Ok.ensures.has c.new-extra.ensures c.in-Ok-strata_with.ensures

pub returns-in-Ok-strata_with-clause-no_other : goal.returns-in-Ok-strata_with-clause-no_other
returns-in-Ok-strata_with-clause-no_other c = no_other c.args.text.now (Ok c.in-Ok.protocol) (ranked_has c.args.text.now c.in-Ok.protocol _ c.in-Ok-strata_with.field-0 c.in-Ok.ensures.has c.new-extra.ensures c.in-Ok-strata_with.ensures)

pub returns-in-Ok-strata_with-clause-well_formed : goal.returns-in-Ok-strata_with-clause-well_formed
returns-in-Ok-strata_with-clause-well_formed c = c.declared_is_well_formed.ensures c.args.text.now c.in-Ok.protocol c.in-Ok.ensures.has

pub returns-in-Err-Cycle-clause-has : goal.returns-in-Err-Cycle-clause-has
returns-in-Err-Cycle-clause-has c = cycle_has c.args.text.now c.in-Ok.protocol _ c.in-Err-Cycle.field-0 _ _ c.in-Ok.ensures.has c.new-extra.ensures c.in-Err-Cycle.ensures c.in-Err-Cycle.field-0-is c.in-Err-Cycle.sort-is

pub returns-in-Err-Cycle-clause-no_other : goal.returns-in-Err-Cycle-clause-no_other
returns-in-Err-Cycle-clause-no_other c = no_other c.args.text.now (Err (ProtocolError.NotStratified c.in-Err-Cycle.sort)) (cycle_has c.args.text.now c.in-Ok.protocol _ c.in-Err-Cycle.field-0 _ _ c.in-Ok.ensures.has c.new-extra.ensures c.in-Err-Cycle.ensures c.in-Err-Cycle.field-0-is c.in-Err-Cycle.sort-is)
