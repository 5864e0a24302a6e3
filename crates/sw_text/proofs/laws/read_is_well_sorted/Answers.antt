use Rattle.sw_text.proofs.WellSorted.{read_is_well_sorted}
use Rattle.sw_text.proofs.laws.read_is_well_sorted.Goals as goal

pub returns : goal.returns
returns c = read_is_well_sorted
