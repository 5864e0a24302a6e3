use Rattle.sw_instances.proofs.Counting.{count_is}
use Rattle.sw_instances.proofs.laws.count_is_length.Goals as goal

pub returns : goal.returns
returns c = count_is
