use Rattle.sw_protocol.proofs.Stepping.{finishes}
use Rattle.sw_protocol.proofs.parsing.finish.Goals as goal

pub returns : goal.returns
returns c = rw c.unfinished.ensures (finishes c.args.done c.args.phase c.args.count c.in_default.not-Begin c.in_ok-end.end c.in_ok-end.ensures)
