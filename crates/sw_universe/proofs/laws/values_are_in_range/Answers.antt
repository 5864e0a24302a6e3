use Rattle.sw_universe.proofs.GroundTerms.{values_are_in_range}
use Rattle.sw_universe.proofs.laws.values_are_in_range.Goals as goal

pub returns : goal.returns
returns c = values_are_in_range
