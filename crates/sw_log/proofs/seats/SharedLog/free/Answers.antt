use Rattle.std.proofs.Common.{rules}
use Rattle.sw_log.proofs.LogKeeps.{frees_turn}
use Rattle.sw_log.proofs.seats.SharedLog.free.Goals as goal

pub store-requires : goal.store-requires
store-requires c = (search rules, search rules, frees_turn _ _ _ c.requires.holds c.requires.list)
