use Rattle.std.proofs.Common.{◌≡◌, map, take}
use Rattle.sw_hand.specs.declared.hand.Handed.{Handed}
use Rattle.sw_gather.proofs.gathering.draw_all.Given as goal

abbrev pub invariant-loop-share : goal.invariant-loop-share
invariant-loop-share l = l.all ≡ map (λ (h : Handed). h.drawn) (take l.share-index l.shares)
