use Rattle.sw_query_laws.proofs.Means.{step_query_means}
use Rattle.sw_query_laws.proofs.step_query_means.Goals as goal

pub returns : goal.returns
returns c = step_query_means
