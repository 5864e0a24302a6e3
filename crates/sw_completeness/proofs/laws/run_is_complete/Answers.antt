use Rattle.sw_completeness.proofs.Ends.{run_is_complete}
use Rattle.sw_completeness.proofs.laws.run_is_complete.Goals as goal

pub returns : goal.returns
returns c = run_is_complete c.search_is_complete.ensures
