use Rattle.sw_core.proofs.Merging.{merged_live}
use Rattle.sw_core.proofs.gathered.merged_live.Goals as goal

pub returns : goal.returns
returns c = merged_live
