use Rattle.sw_query_laws.proofs.Simple.{safety_start_query_means}
use Rattle.sw_query_laws.proofs.safety_start_query_means.Goals as goal

pub returns : goal.returns
returns c = safety_start_query_means
