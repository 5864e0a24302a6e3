use Rattle.sw_core.proofs.Merging.{merged_stays}
use Rattle.sw_core.proofs.gathered.merged_stays.Goals as goal

pub returns : goal.returns
returns c = merged_stays
