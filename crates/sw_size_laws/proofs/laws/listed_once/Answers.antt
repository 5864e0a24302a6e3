use Rattle.sw_size_laws.proofs.Once.{listed_once}
use Rattle.sw_size_laws.proofs.laws.listed_once.Goals as goal

pub returns : goal.returns
returns c = listed_once
