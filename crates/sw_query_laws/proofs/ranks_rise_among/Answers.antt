use Rattle.sw_query_laws.proofs.Edging.{ranks_rise_among}
use Rattle.sw_query_laws.proofs.ranks_rise_among.Goals as goal

pub returns : goal.returns
returns c = ranks_rise_among
