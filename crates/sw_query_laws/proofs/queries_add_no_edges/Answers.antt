use Rattle.sw_query_laws.proofs.Edging.{queries_add_no_edges}
use Rattle.sw_query_laws.proofs.queries_add_no_edges.Goals as goal

pub returns : goal.returns
returns c = queries_add_no_edges
