use Rattle.std.proofs.Common.{◌∙◌, sym, ap, arith, map, ℕ, List, [], ◌∷◌, ◌++◌}
use Rattle.std.specs.List.{range_with_len}
use Rattle.std.proofs.lemmas.List.FromFn.{map-range_with_len_more}
use Rattle.sw_strata.specs.Reaching.{rank_in}
use Rattle.sw_strata.proofs.reaching.ranks.Goals as goal

pub loop-sort-preserved : goal.loop-sort-preserved
loop-sort-preserved c =
    let n = c.loop-sort.sort in
    let more = map-range_with_len_more (rank_in c.args.tables.now) 0 n n (omega arith) in
    c.in_ok-push.ensures.ok ∙ (ap (λ (xs : List ℕ). xs ++ c.rank.result ∷ []) c.loop-sort.invariant ∙ (ap (λ (r : ℕ). map (rank_in c.args.tables.now) (range_with_len 0 n) ++ r ∷ []) c.rank.ensures ∙ sym more))
