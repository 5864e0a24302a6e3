use Rattle.std.proofs.Common.{rules}
use Rattle.sw_log.proofs.LogKeeps.{measures}
use Rattle.sw_log.proofs.seats.SharedLog.length.Goals as goal

pub load-requires : goal.load-requires
load-requires c = (search rules, search rules, measures _ _ _ c.seat.invariant.idle.live)
