use Rattle.std.proofs.Common.{◌<◌, ◌∙◌, ◌++◌, ◌∷◌, sym, ap, arith, map, take, length, List}
use Rattle.std.specs.List.{flat_map}
use Rattle.sw_logic.specs.declared.syntax.Term.{Term}
use Rattle.sw_universe.proofs.listing.longer.Goals as goal
use Rattle.sw_lists.proofs.Made.{flat_map_more}

pub loop-first-preserved : goal.loop-first-preserved
loop-first-preserved c =
    let i = c.loop-first.first-index in
    let firsts = c.args.firsts.now in
    let tails = c.args.tails.now in
    let x = c.first-item.result in
    let f = λ (y : Term). map (λ (tuple : List Term). y ∷ tuple) tails in
    let within : i < length firsts = omega arith in
    c.in_ok-put_longer.ensures {u = tt} ∙ (ap (λ (ts : List (List Term)). ts ++ f x) c.loop-first.invariant
    ∙ (ap (λ (y : Term). flat_map f (take i firsts) ++ f y) c.first-item.is ∙ sym (flat_map_more f firsts i x within)))
