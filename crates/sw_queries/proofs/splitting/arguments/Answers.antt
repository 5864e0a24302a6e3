use Rattle.std.proofs.Common.{◌≡◌, ◌++◌, ◌∷◌, [], ℕ, List, map, slice_get, sym, ap, ◌∙◌, arith}
use Rattle.std.specs.List.{range_with_len}
use Rattle.std.proofs.lemmas.List.FromFn.{map-range_with_len_more}
use Rattle.sw_logic.specs.Truth.{value_in}
use Rattle.sw_renaming.specs.Renamed.{constant_of}
use Rattle.sw_queries.proofs.splitting.arguments.Goals as goal

pub loop-param-preserved : goal.loop-param-preserved
loop-param-preserved c =
    let f : ℕ → ℕ = λ n. value_in (slice_get c.args.structure.now.tables (constant_of c.args.renaming.now.protocol.now c.args.renaming.now.transition.now n)) 0 in
    let i = c.loop-param.param in
    let is : c.constant_value.result ≡ f i = c.constant_value.ensures ∙ ap (λ n. value_in (slice_get c.args.structure.now.tables n) 0) c.in_ok-constant.ensures in
    c.in_ok-push.ensures.ok ∙ ap (λ v. v ++ c.constant_value.result ∷ []) c.loop-param.invariant ∙ ap (λ x. map f (range_with_len 0 i) ++ x ∷ []) is ∙ sym (map-range_with_len_more f 0 i i (omega arith))
