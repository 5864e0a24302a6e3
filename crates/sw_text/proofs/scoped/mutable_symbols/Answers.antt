use Rattle.std.proofs.Common.{◌++◌, List, ℕ, take, sym, ap, ◌∙◌}
use Rattle.sw_logic.specs.declared.syntax.Symbol.{Symbol}
use Rattle.sw_text.specs.Scoped.{listed_by, mutable_from}
use Rattle.sw_text.proofs.Numbered.{mutable_more}
use Rattle.sw_text.proofs.scoped.mutable_symbols.Goals as goal

pub loop-i-preserved : goal.loop-i-preserved
loop-i-preserved c =
    let ss = c.args.signature.now.symbols in
    let i = c.loop-i.i in
    let within = rw c.as_slice-symbol-items.ensures at c.loop-i-test.true in
    let item = rw c.as_slice-symbol-items.ensures at c.symbol-item.is in
    c.in_ok-list_mutable.ensures
    ∙ ap (λ (ks : List ℕ). ks ++ listed_by c.symbol-item.result.mutable i) c.loop-i.invariant
    ∙ ap (λ (s : Symbol). mutable_from 0 (take i ss) ++ listed_by s.mutable i) item
    ∙ sym (mutable_more ss i c.symbol-item.result within)
