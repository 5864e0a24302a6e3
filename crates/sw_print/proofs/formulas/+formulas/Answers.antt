use Rattle.std.proofs.Common.{List, ℕ, ap, ◌∙◌, ◌++◌}
use Rattle.std.specs.Prelude.{string_bytes}
use Rattle.sw_logic.specs.declared.syntax.Formula.{Formula}
use Rattle.sw_logic.specs.Canonical.{shown}
use Rattle.sw_print.specs.Printing.{names_in}
use Rattle.sw_print.proofs.Joined.{written, shown-All, shown-Any}
use Rattle.sw_print.proofs.formulas.+formulas.Goals as goal

pub push_alone-returns-in-All : goal.push_alone-returns-in-All
push_alone-returns-in-All t c = rw (c.in-All.is, shown-All c.args.signature.now (names_in c.args.scope.now) c.in-All.parts, ← c.as_slice-in-All.ensures) c.push_operands.ensures

pub push_alone-returns-in-Any : goal.push_alone-returns-in-Any
push_alone-returns-in-Any t c = rw (c.in-Any.is, shown-Any c.args.signature.now (names_in c.args.scope.now) c.in-Any.parts, ← c.as_slice-in-Any.ensures) c.push_operands-in-Any.ensures

pub push_operands-loop-i-preserved : goal.push_operands-loop-i-preserved
push_operands-loop-i-preserved t c =
    let f : Formula → List ℕ = λ f. (shown c.args.signature.now (names_in c.args.scope.now) f).operand in
    written c.args.sign.now f c.args.parts.now c.loop-i.i c.index-parts-i.result _ _ _ _ c.loop-i-test.true c.loop-i.invariant c.in_ok-push_between.ensures
    (c.in_ok-push_operand.ensures ∙ ap (λ b. string_bytes c.push_between.new.text ++ f b) c.index-parts-i.is)
