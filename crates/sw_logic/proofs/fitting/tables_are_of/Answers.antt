use Rattle.std.proofs.Common.{◌∙◌, arith}
use Rattle.sw_logic.proofs.Counting.{tables_fit-end}
use Rattle.sw_logic.proofs.fitting.tables_are_of.Goals as goal

pub returns : goal.returns
returns c =
    tables_fit-end c.args.sizes.now c.args.symbols.now c.args.tables.now c.loop-i.i (omega (arith, c.loop-i-test.false, c.loop-i.auto.i-end)) c.loop-i.invariant.0 ∙ c.loop-i.invariant.1
