use Rattle.std.proofs.Common.{[], List, ℕ, ap, sym, ◌∙◌, arith, map, slice_get, unwrap_or}
use Rattle.std.proofs.lemmas.Option.{slice_get_past}
use Rattle.sw_logic.specs.declared.syntax.Formula.{Formula}
use Rattle.sw_logic.specs.declared.syntax.Formula.TheVariants.{All, False}
use Rattle.sw_meaning.specs.Space.{all_of}
use Rattle.sw_meaning.specs.Classes.{signed}
use Rattle.sw_template.proofs.formulas.cube_formula.Goals as goal

pub returns-then-cube-count : goal.returns-then-cube-count
returns-then-cube-count c =
    let literal : ℕ → Formula = λ n. unwrap_or (slice_get (signed c.args.literals.now) n) False in
    ap All c.new.ensures ∙ ap (λ o. all_of (map literal (unwrap_or o []))) (sym (slice_get_past c.args.cubes.now c.args.cube (omega (arith, c.if-cube-count.true, c.count.ensures.count))))
