use Rattle.std.proofs.Common.{take}
use Rattle.sw_gather.specs.Gathers.{AreSettledOf, shown_by}
use Rattle.sw_gather.proofs.gathering.settle_all.Given as goal

abbrev pub invariant-loop-share : goal.invariant-loop-share
invariant-loop-share l = AreSettledOf l.before (shown_by l.tokens) (take l.share-index l.shares) l.all
