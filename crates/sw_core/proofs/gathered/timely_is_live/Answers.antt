use Rattle.sw_core.proofs.Merging.{timely_is_live}
use Rattle.sw_core.proofs.gathered.timely_is_live.Goals as goal

pub returns : goal.returns
returns c = timely_is_live
