use Rattle.std.proofs.Common.{◌≡◌, ◌∙◌, ◌++◌, ◌∷◌, [], sym, ap, arith, map, List, ℕ}
use Rattle.std.specs.List.{range_with_len, sum_by}
use Rattle.std.proofs.lemmas.List.FromFn.{map-range_with_len_more}
use Rattle.sw_universe.specs.Counting.{count_over, one_constant, applied_count, count_in}
use Rattle.sw_universe.proofs.Counted.{add_capped}
use Rattle.sw_universe.proofs.counting.deeper.Goals as goal

pub loop-sort-preserved : goal.loop-sort-preserved
loop-sort-preserved c =
    let n = c.loop-sort.sort in
    let symbols = c.args.symbols.now in
    let f = count_over symbols c.args.counted.now in
    let here : c.add.result ≡ f n =
    c.add.ensures ∙ add_capped c.constants.result c.applications.result (sum_by (one_constant n) symbols) (sum_by (applied_count (count_in c.args.counted.now) n) symbols) c.constants.ensures c.applications.ensures in
    c.in_ok-push.ensures.ok ∙ (ap (λ (ls : List ℕ). ls ++ c.add.result ∷ []) c.loop-sort.invariant
    ∙ (ap (λ (k : ℕ). map f (range_with_len 0 n) ++ k ∷ []) here ∙ sym (map-range_with_len_more f 0 n n (omega arith))))
