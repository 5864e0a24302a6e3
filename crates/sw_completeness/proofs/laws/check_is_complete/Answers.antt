use Rattle.sw_completeness.proofs.Reading.{check_is_complete}
use Rattle.sw_completeness.proofs.laws.check_is_complete.Goals as goal

pub returns : goal.returns
returns c = check_is_complete
