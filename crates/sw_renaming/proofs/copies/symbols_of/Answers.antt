use Rattle.std.proofs.Common.{◌≡◌, ◌++◌, ◌∷◌, [], List, take, slice_get, sym, ap, ◌∙◌, Option, Some, None, ℕ, get_or, refl}
use Rattle.std.proofs.lemmas.List.{take_more}
use Rattle.sw_logic.specs.declared.syntax.Symbol.{Symbol}
use Rattle.sw_renaming.specs.Symbols.{copies_of, with_symbol}
use Rattle.sw_renaming.proofs.copies.symbols_of.Goals as goal

with_append : (o : Option Symbol) (xs ys : List Symbol) → with_symbol o (xs ++ ys) ≡ with_symbol o xs ++ ys
with_append None xs ys = refl
with_append (Some s) xs ys = refl

copies_push : (symbols : List Symbol) (xs : List ℕ) (m : ℕ) → copies_of symbols (xs ++ m ∷ []) ≡ copies_of symbols xs ++ with_symbol (slice_get symbols m) []
copies_push symbols [] m = refl
copies_push symbols (x ∷ xs) m =
    ap (with_symbol (slice_get symbols x)) (copies_push symbols xs m) ∙ with_append (slice_get symbols x) (copies_of symbols xs) (with_symbol (slice_get symbols m) [])

pub loop-number-preserved : goal.loop-number-preserved
loop-number-preserved c =
    let symbols = c.args.symbols.now in
    let listed = c.args.listed.now in
    let i = c.loop-number.number-index in
    let m : ℕ = get_or listed i 0 in
    c.in_ok-push_symbol.ensures ∙ ap (λ v. v ++ with_symbol (slice_get symbols m) []) c.loop-number.invariant
    ∙ sym (copies_push symbols (take i listed) m) ∙ ap (copies_of symbols) (sym (take_more listed i 0 c.loop-number-test.true))
