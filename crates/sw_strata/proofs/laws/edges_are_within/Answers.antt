use Rattle.sw_strata.proofs.WithinSorts.{edges_are_within}
use Rattle.sw_strata.proofs.laws.edges_are_within.Goals as goal

pub returns : goal.returns
returns c = edges_are_within
