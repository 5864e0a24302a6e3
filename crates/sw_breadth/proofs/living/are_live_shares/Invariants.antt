use Rattle.std.proofs.Common.{take}
use Rattle.std.specs.List.{AllByRecursion}
use Rattle.sw_breadth.specs.Records.{IsLiveShare}
use Rattle.sw_breadth.proofs.living.are_live_shares.Given as goal

abbrev pub invariant-loop-share : goal.invariant-loop-share
invariant-loop-share l = AllByRecursion (IsLiveShare l.protocol l.list l.before) (take l.share-index l.shares)
