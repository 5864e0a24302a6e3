use Rattle.std.proofs.Common.{take}
use Rattle.std.specs.List.{AllByRecursion}
use Rattle.sw_core.specs.declared.record.Settled.{Settled}
use Rattle.sw_breadth.specs.Records.{AreLiveAt}
use Rattle.sw_breadth.proofs.living.is_live_share.Given as goal

abbrev pub invariant-loop-settled : goal.invariant-loop-settled
invariant-loop-settled l = AllByRecursion (λ (x : Settled). AreLiveAt l.protocol l.list l.before l.share.kept x.by) (take l.settled-index l.share.settled)
