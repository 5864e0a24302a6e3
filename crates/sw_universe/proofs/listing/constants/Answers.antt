use Rattle.std.proofs.Common.{◌<◌, ◌∙◌, ◌++◌, sym, ap, arith, length, get_or, List}
use Rattle.sw_logic.specs.declared.syntax.Symbol.{Symbol}
use Rattle.sw_logic.specs.declared.syntax.Term.{Term}
use Rattle.sw_universe.specs.Listing.{constant_of}
use Rattle.sw_universe.proofs.Listed.{constants_more}
use Rattle.sw_universe.proofs.listing.constants.Goals as goal

pub loop-number-preserved : goal.loop-number-preserved
loop-number-preserved c =
    let i = c.loop-number.number in
    let items = c.as_slice-symbol-items.result.now in
    let x = c.symbol-item.result in
    let within : i < length items = omega arith in
    c.in_ok-append.ensures {u = tt} ∙ (ap (λ (ts : List Term). c.loop-number.terms ++ ts) (c.in_ok-constant_of.ensures {u = tt} ∙ ap (λ (s : Symbol). constant_of i s c.args.sort) c.symbol-item.is)
    ∙ (ap (λ (ts : List Term). ts ++ constant_of i (get_or items i x) c.args.sort) c.loop-number.invariant ∙ sym (constants_more items c.args.sort i x within)))
