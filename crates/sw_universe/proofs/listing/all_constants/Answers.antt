use Rattle.std.proofs.Common.{◌∙◌, ◌++◌, ◌∷◌, [], sym, ap, arith, map, List}
use Rattle.std.specs.List.{range_with_len}
use Rattle.std.proofs.lemmas.List.FromFn.{map-range_with_len_more}
use Rattle.sw_logic.specs.declared.syntax.Term.{Term}
use Rattle.sw_universe.specs.GroundTerms.{constants}
use Rattle.sw_universe.proofs.listing.all_constants.Goals as goal

pub loop-sort-preserved : goal.loop-sort-preserved
loop-sort-preserved c =
    let n = c.loop-sort.sort in
    let f = constants c.args.sig.now in
    c.in_ok-push.ensures.ok ∙ (ap (λ (ls : List (List Term)). ls ++ c.in_ok-constants.field-0 ∷ []) c.loop-sort.invariant
    ∙ (ap (λ (ts : List Term). map f (range_with_len 0 n) ++ ts ∷ []) (c.in_ok-constants.ensures {u = tt}) ∙ sym (map-range_with_len_more f 0 n n (omega arith))))
