use Rattle.sw_protocol.proofs.OneParse.{one_parse}
use Rattle.sw_protocol.proofs.laws.one_parse.Goals as goal

pub returns : goal.returns
returns c = one_parse
