use Rattle.std.proofs.Common.{◌≡◌, take, false}
use Rattle.std.specs.List.{list_any}
use Rattle.sw_skolem.specs.Normal.{is_constant}
use Rattle.sw_skolem.proofs.absorbing.has_constant.Given as goal

abbrev pub invariant-loop-part : goal.invariant-loop-part
invariant-loop-part l = list_any (is_constant l.value) (take l.part-index l.parts) ≡ false
