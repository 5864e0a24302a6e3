use Rattle.std.proofs.Common.{◌∙◌, sym, ap, arith, ℕ, List, [], ◌∷◌, ◌++◌}
use Rattle.std.proofs.lemmas.List.FromFn.{map-range_with_len_more}
use Rattle.sw_strata.proofs.ranks.zeros.Goals as goal

pub loop-preserved : goal.loop-preserved
loop-preserved c =
    c.in_ok-push.ensures.ok ∙ (ap (λ (xs : List ℕ). xs ++ 0 ∷ []) c.loop.invariant ∙ sym (map-range_with_len_more (λ (k : ℕ). 0) 0 c.loop.counter c.loop.counter (omega arith)))
