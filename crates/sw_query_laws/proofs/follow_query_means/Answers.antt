use Rattle.sw_query_laws.proofs.Simple.{follow_query_means}
use Rattle.sw_query_laws.proofs.follow_query_means.Goals as goal

pub returns : goal.returns
returns c = follow_query_means
