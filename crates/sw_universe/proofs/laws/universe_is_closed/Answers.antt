use Rattle.sw_universe.proofs.GroundTerms.{universe_is_closed}
use Rattle.sw_universe.proofs.laws.universe_is_closed.Goals as goal

pub returns : goal.returns
returns c = universe_is_closed
