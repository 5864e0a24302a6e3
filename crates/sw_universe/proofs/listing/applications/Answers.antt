use Rattle.std.proofs.Common.{◌<◌, ◌∙◌, ◌++◌, sym, ap, arith, length, get_or, List}
use Rattle.sw_logic.specs.declared.syntax.Symbol.{Symbol}
use Rattle.sw_logic.specs.declared.syntax.Term.{Term}
use Rattle.sw_universe.specs.Listing.{applied, listed_in}
use Rattle.sw_universe.proofs.Listed.{applications_more}
use Rattle.sw_universe.proofs.listing.applications.Goals as goal

pub loop-number-preserved : goal.loop-number-preserved
loop-number-preserved c =
    let i = c.loop-number.number in
    let items = c.as_slice-symbol-items.result.now in
    let x = c.symbol-item.result in
    let f = listed_in c.args.lists.now in
    let within : i < length items = omega arith in
    c.in_ok-append.ensures {u = tt} ∙ (ap (λ (ts : List Term). c.loop-number.terms ++ ts) (c.in_ok-applied.ensures {u = tt} ∙ ap (λ (s : Symbol). applied f i s c.args.sort) c.symbol-item.is)
    ∙ (ap (λ (ts : List Term). ts ++ applied f i (get_or items i x) c.args.sort) c.loop-number.invariant ∙ sym (applications_more f items c.args.sort i x within)))
