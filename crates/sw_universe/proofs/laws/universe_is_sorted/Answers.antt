use Rattle.sw_universe.proofs.GroundTerms.{universe_is_sorted}
use Rattle.sw_universe.proofs.laws.universe_is_sorted.Goals as goal

pub returns : goal.returns
returns c = universe_is_sorted
