use Rattle.sw_core.proofs.Fresh.{kept_are_fresh}
use Rattle.sw_core.proofs.gathered.kept_are_fresh.Goals as goal

pub returns : goal.returns
returns c = kept_are_fresh
