use Rattle.sw_completeness.proofs.Searches.{search_is_complete}
use Rattle.sw_completeness.proofs.laws.search_is_complete.Goals as goal

pub returns : goal.returns
returns c = search_is_complete c.listed_once.ensures c.lists_grow.ensures c.budget_suffices.ensures
