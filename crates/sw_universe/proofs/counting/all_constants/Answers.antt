use Rattle.std.proofs.Common.{◌∙◌, ◌++◌, ◌∷◌, [], sym, ap, arith, map, List, ℕ}
use Rattle.std.specs.List.{range_with_len}
use Rattle.std.proofs.lemmas.List.FromFn.{map-range_with_len_more}
use Rattle.sw_universe.specs.Counting.{constant_count}
use Rattle.sw_universe.proofs.counting.all_constants.Goals as goal

pub loop-sort-preserved : goal.loop-sort-preserved
loop-sort-preserved c =
    let n = c.loop-sort.sort in
    let f = constant_count c.args.symbols.now in
    c.in_ok-push.ensures.ok ∙ (ap (λ (ls : List ℕ). ls ++ c.constants.result ∷ []) c.loop-sort.invariant
    ∙ (ap (λ (k : ℕ). map f (range_with_len 0 n) ++ k ∷ []) c.constants.ensures ∙ sym (map-range_with_len_more f 0 n n (omega arith))))
