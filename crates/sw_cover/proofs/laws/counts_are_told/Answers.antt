use Rattle.sw_cover.proofs.Examples.{counts_are_told}
use Rattle.sw_cover.proofs.laws.counts_are_told.Goals as goal

pub returns : goal.returns
returns c = counts_are_told
