use Rattle.sw_readback.proofs.Protocols.{reads_back}
use Rattle.sw_readback.proofs.laws.protocols_read_back.Goals as goal

pub returns : goal.returns
returns c = reads_back
