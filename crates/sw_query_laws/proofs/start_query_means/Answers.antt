use Rattle.sw_query_laws.proofs.Simple.{start_query_means}
use Rattle.sw_query_laws.proofs.start_query_means.Goals as goal

pub returns : goal.returns
returns c = start_query_means
