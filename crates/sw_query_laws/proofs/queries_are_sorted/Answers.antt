use Rattle.sw_query_laws.proofs.AreQueries.{queries_are_sorted}
use Rattle.sw_query_laws.proofs.queries_are_sorted.Goals as goal

pub returns : goal.returns
returns c = queries_are_sorted
