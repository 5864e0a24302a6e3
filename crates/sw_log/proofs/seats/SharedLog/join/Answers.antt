use Rattle.std.proofs.Common.{rules}
use Rattle.sw_log.proofs.LogKeeps.{joins, measures}
use Rattle.sw_log.proofs.seats.SharedLog.join.Goals as goal

pub join_seat-requires : goal.join_seat-requires
join_seat-requires c = (search rules, search rules, search rules, search rules, joins _ _ _ _ c.seat.invariant.idle.live (search rules) c.other.invariant.idle.live c.seat.invariant.idle.free c.other.invariant.idle.free)

pub load-requires : goal.load-requires
load-requires c = (search rules, search rules, measures _ _ _ (search rules))
