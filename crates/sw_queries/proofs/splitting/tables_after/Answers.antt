use Rattle.std.proofs.Common.{◌≡◌, ◌++◌, ◌∷◌, [], ℕ, List, map, sym, ap, ◌∙◌, arith}
use Rattle.std.specs.List.{range_with_len}
use Rattle.std.proofs.lemmas.List.FromFn.{map-range_with_len_more}
use Rattle.sw_logic.specs.declared.structure.Table.{Table}
use Rattle.sw_renaming.specs.Renamed.{copy_of}
use Rattle.sw_queries.specs.Counterexamples.{table_in}
use Rattle.sw_queries.proofs.splitting.tables_after.Goals as goal

pub loop-symbol-preserved : goal.loop-symbol-preserved
loop-symbol-preserved c =
    let s = c.args.structure.now in
    let f : ℕ → Table = λ n. table_in s (copy_of c.args.renaming.now.protocol.now c.args.renaming.now.transition.now n) in
    let i = c.loop-symbol.symbol in
    let number : c.in_ok-symbol.symbol ≡ i = omega (arith, c.in_ok-symbol.ensures) in
    let is : c.in_ok-table_in.field-0 ≡ f i = c.in_ok-table_in.ensures ∙ ap (table_in s) c.in_ok-copy.ensures ∙ ap f number in
    c.in_ok-push.ensures.ok ∙ ap (λ v. v ++ c.in_ok-table_in.field-0 ∷ []) c.loop-symbol.invariant ∙ ap (λ x. map f (range_with_len 0 i) ++ x ∷ []) is ∙ sym (map-range_with_len_more f 0 i i (omega arith))
