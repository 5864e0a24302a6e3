use Rattle.std.proofs.Common.{take}
use Rattle.sw_gather.specs.Gathers.{AreAt, shown_by}
use Rattle.sw_gather.proofs.merging.places_of.Given as goal

abbrev pub invariant-loop-token : goal.invariant-loop-token
invariant-loop-token l = AreAt (shown_by l.tokens) (shown_by (take l.token-index l.own)) l.places.items
