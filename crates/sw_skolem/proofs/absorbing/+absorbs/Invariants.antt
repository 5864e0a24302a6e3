use Rattle.std.proofs.Common.{◌≡◌, take, map}
use Rattle.sw_skolem.specs.Absorbing.{absorbed}
use Rattle.sw_skolem.proofs.absorbing.+absorbs.Given as goal

abbrev pub invariant-absorb_all-loop-part : goal.invariant-absorb_all-loop-part
invariant-absorb_all-loop-part l = l.all ≡ map absorbed (take l.part-index l.parts)
