use Rattle.sw_protocol.proofs.OneDeclared.{one_declared}
use Rattle.sw_protocol.proofs.laws.one_declared.Goals as goal

pub returns : goal.returns
returns c = one_declared
