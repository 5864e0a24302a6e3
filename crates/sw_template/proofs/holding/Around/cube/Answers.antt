use Rattle.std.proofs.Common.{ap, sym, ◌∙◌, slice_get, unwrap_or, []}
use Rattle.std.specs.List.{list_all}
use Rattle.std.proofs.lemmas.List.Folds.{list_all-map}
use Rattle.sw_logic.specs.declared.syntax.Formula.TheVariants.{False}
use Rattle.sw_logic.specs.Truth.{world, truth}
use Rattle.sw_meaning.specs.Classes.{signed}
use Rattle.sw_template.proofs.Signed.{literal_true}
use Rattle.sw_template.proofs.holding.Around.cube.Goals as goal

pub returns : goal.returns
returns c =
    let w = world c.args.self.now.sig.now c.args.self.now.structure.now c.args.self.now.structure.now in
    let env = c.args.env.now in
    let atoms = c.args.self.now.literals.now in
    c.all.ensures ∙ (ap (list_all (literal_true w env atoms)) c.literals_in-cube.ensures.literals
    ∙ sym (list_all-map (λ f. truth w f env) (λ n. unwrap_or (slice_get (signed atoms) n) False) (unwrap_or (slice_get c.args.self.now.cubes.now c.args.cube) [])))
