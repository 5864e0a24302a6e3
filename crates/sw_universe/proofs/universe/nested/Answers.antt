use Rattle.std.proofs.Common.{◌∙◌, ◌<◌, ap, subst, map, List, ℕ}
use Rattle.std.specs.List.{range_with_len, AllByRecursion}
use Rattle.sw_logic.specs.declared.syntax.Symbol.{Symbol}
use Rattle.sw_logic.specs.declared.syntax.Term.{Term}
use Rattle.sw_universe.specs.Listing.{terms_over}
use Rattle.sw_universe.proofs.Listed.{next_level, symbols_below}
use Rattle.sw_universe.proofs.universe.nested.Goals as goal

pub loop-depth-preserved : goal.loop-depth-preserved
loop-depth-preserved c =
    let n = c.args.sorts in
    let sig = c.args.sig.now in
    let d = c.loop-depth.depth in
    let below = subst (λ (k : ℕ). AllByRecursion (λ (s : Symbol). AllByRecursion (λ a. a < k) s.args) sig.symbols) c.requires.count (symbols_below _ sig.symbols c.requires.signature) in
    c.in_ok-lists-2.ensures {u = tt} ∙ (ap (λ (ls : List (List Term)). map (terms_over sig ls) (range_with_len 0 n)) (c.as_slice.ensures ∙ c.loop-depth.invariant) ∙ next_level sig n d below)
