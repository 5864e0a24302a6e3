use Rattle.sw_protocol.proofs.OneReading.{one_protocol}
use Rattle.sw_protocol.proofs.laws.one_protocol.Goals as goal

pub returns : goal.returns
returns c = one_protocol
