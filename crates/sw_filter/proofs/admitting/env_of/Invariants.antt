use Rattle.std.proofs.Common.{◌≡◌, take}
use Rattle.sw_filter.proofs.admitting.env_of.Given as goal

abbrev pub invariant-loop-value : goal.invariant-loop-value
invariant-loop-value l = l.env ≡ take l.value-index l.values
