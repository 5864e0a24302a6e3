use Rattle.sw_run.proofs.Safety.{safe_means_safe}
use Rattle.sw_run.proofs.laws.safe_means_safe.Goals as goal

pub returns : goal.returns
returns c = safe_means_safe
