use Rattle.std.proofs.Common.{◌≡◌, ℕ, ◌<◌, ◌&&◌, ◌∙◌, sym, ap, arith, length, get_or, true, false, List}
use Rattle.std.proofs.lemmas.Grind.{common_steps}
use Rattle.sw_logic.specs.declared.syntax.Term.{Term}
use Rattle.sw_logic.specs.Terms.{has, occurs}
use Rattle.sw_skolem.specs.Forming.{is_read}
use Rattle.sw_skolem.proofs.PartOccurs.{read_yes, read_more}
use Rattle.sw_skolem.proofs.existentials.Outer.is_read.Goals as goal

pub returns-then-reads : goal.returns-then-reads
returns-then-reads c =
    let i = c.loop-variable.variable in
    let items = c.as_slice-term-items.result.now in
    let u = c.args.universal in
    let f = c.args.formula.now in
    let x = c.term-item.result in
    let within : i < length items = omega arith in
    let v : c.in-Ok.variable ≡ i = first_of (omega arith, cc, grind (arith, common_steps)) in
    let here : (has u (get_or items i x) && occurs i f) ≡ true = ap (λ (y : Term). has u y && occurs i f) (sym c.term-item.is) ∙ (ap (λ (k : ℕ). has u x && occurs k f) (sym v) ∙ (sym c.reads.ensures ∙ c.if-reads.true)) in
    read_yes items f u i x within here ∙ ap (λ (ts : List Term). is_read ts f u) c.as_slice-term-items.ensures

pub loop-variable-preserved : goal.loop-variable-preserved
loop-variable-preserved c =
    let i = c.loop-variable.variable in
    let items = c.as_slice-term-items.result.now in
    let u = c.args.universal in
    let f = c.args.formula.now in
    let x = c.term-item.result in
    let within : i < length items = omega arith in
    let v : c.in-Ok.variable ≡ i = first_of (omega arith, cc, grind (arith, common_steps)) in
    let here : (has u (get_or items i x) && occurs i f) ≡ false = ap (λ (y : Term). has u y && occurs i f) (sym c.term-item.is) ∙ (ap (λ (k : ℕ). has u x && occurs k f) (sym v) ∙ (sym c.reads.ensures ∙ c.if-reads.false)) in
    read_more items f u i x within c.loop-variable.invariant here
