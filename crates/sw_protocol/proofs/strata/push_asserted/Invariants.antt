use Rattle.std.proofs.Common.{◌≡◌, ◌++◌, map, take}
use Rattle.sw_meaning.specs.Edges.{asserted}
use Rattle.sw_protocol.proofs.strata.push_asserted.Given as goal

abbrev pub invariant-loop-formula : goal.invariant-loop-formula
invariant-loop-formula l = l.polars ≡ l.initial.polars ++ map asserted (take l.formula-index l.formulas)
