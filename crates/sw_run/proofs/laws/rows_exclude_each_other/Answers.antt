use Rattle.sw_run.proofs.Causes.{rows_exclude}
use Rattle.sw_run.proofs.laws.rows_exclude_each_other.Goals as goal

pub returns : goal.returns
returns c = rows_exclude
