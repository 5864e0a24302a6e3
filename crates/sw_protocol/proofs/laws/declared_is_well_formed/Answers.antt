use Rattle.sw_protocol.proofs.Declared.{declared_is_well_formed}
use Rattle.sw_protocol.proofs.laws.declared_is_well_formed.Goals as goal

pub returns : goal.returns
returns c = declared_is_well_formed
