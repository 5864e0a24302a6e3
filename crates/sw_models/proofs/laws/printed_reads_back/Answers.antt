use Rattle.sw_models.proofs.Complete.{reads_back}
use Rattle.sw_models.proofs.laws.printed_reads_back.Goals as goal

pub returns : goal.returns
returns c = reads_back
