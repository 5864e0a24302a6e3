use Rattle.sw_readback.proofs.Formulas.{reads_back}
use Rattle.sw_readback.proofs.laws.formulas_read_back.Goals as goal

pub returns : goal.returns
returns c = reads_back
