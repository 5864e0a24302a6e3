use Rattle.sw_universe.proofs.GroundTerms.{universe_is_inhabited}
use Rattle.sw_universe.proofs.laws.universe_is_inhabited.Goals as goal

pub returns : goal.returns
returns c = universe_is_inhabited
