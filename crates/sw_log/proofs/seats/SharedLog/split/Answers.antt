use Rattle.std.proofs.Common.{rules, ◌≤◌, arith}
use Rattle.sw_log.proofs.LogKeeps.{splits}
use Rattle.sw_log.proofs.seats.SharedLog.split.Goals as goal

pub split_seat-made-requires : goal.split_seat-made-requires
split_seat-made-requires c = let is = c.seat.invariant.splits_are in let some_left : 1 ≤ c.seat.inside.seat.me.0.splits = omega arith in (search rules, search rules, splits _ _ c.seat.invariant.idle.live some_left)
