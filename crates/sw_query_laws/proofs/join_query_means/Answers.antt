use Rattle.sw_query_laws.proofs.Means.{join_query_means}
use Rattle.sw_query_laws.proofs.join_query_means.Goals as goal

pub returns : goal.returns
returns c = join_query_means
