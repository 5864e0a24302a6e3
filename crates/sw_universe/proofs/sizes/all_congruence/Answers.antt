use Rattle.std.proofs.Common.{◌∙◌, ap, arith}
use Rattle.sw_logic.specs.declared.syntax.Symbol.{Symbol}
use Rattle.sw_universe.specs.Sizes.{capped}
use Rattle.sw_universe.specs.Counting.{count_in, congruences_in}
use Rattle.sw_universe.proofs.Counted.{sum_more}
use Rattle.sw_universe.proofs.sizes.all_congruence.Goals as goal

pub loop-symbol-preserved : goal.loop-symbol-preserved
loop-symbol-preserved c =
    let f = congruences_in (count_in c.args.counts.now) in
    sum_more f c.args.symbols.now c.loop-symbol.symbol-index c.symbol-item.result c.loop-symbol.total c.add-total.result c.congruence.result (omega arith)
    c.loop-symbol.invariant (c.congruence.ensures ∙ ap (λ (s : Symbol). capped (f s)) c.symbol-item.is) c.add-total.ensures
