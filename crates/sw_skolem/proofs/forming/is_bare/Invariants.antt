use Rattle.std.proofs.Common.{◌≡◌, take, true}
use Rattle.sw_truth.specs.Models.{is_bare}
use Rattle.sw_skolem.proofs.forming.is_bare.Given as goal

abbrev pub invariant-loop-symbol : goal.invariant-loop-symbol
invariant-loop-symbol l = is_bare (take l.symbol-index l.symbols) l.sort ≡ true
