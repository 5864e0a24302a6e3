use Rattle.std.proofs.Common.{◌≡◌, ◌%◌, ◌∙◌, arith, ap}
use Rattle.sw_logic.specs.declared.syntax.Formula.TheVariants.{Not}
use Rattle.sw_template.proofs.Made.{past_at, plain_at, negated_at}
use Rattle.sw_template.proofs.formulas.literal_formula.Goals as goal

pub returns-then-atom-count : goal.returns-then-atom-count
returns-then-atom-count c = past_at c.args.literals.now c.args.literal (omega (arith, c.if-atom-count.true, c.count.ensures.count))

pub returns-then-literal-eq0 : goal.returns-then-literal-eq0
returns-then-literal-eq0 c = c.in_ok-copy.ensures ∙ plain_at c.args.literals.now c.args.literal c.atom.result.now c.atom.ensures c.if-literal-eq0.true

pub returns : goal.returns
returns c =
    let odd : c.args.literal % 2 ≡ 1 = omega (arith, c.if-literal-eq0.false) in
    ap Not (c.in_ok-new.ensures ∙ c.in_ok-copy.ensures) ∙ negated_at c.args.literals.now c.args.literal c.atom.result.now c.atom.ensures odd
