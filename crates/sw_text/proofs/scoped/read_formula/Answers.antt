use Rattle.std.proofs.Common.{ℕ, [], List, subst, sym}
use Rattle.sw_logic.specs.declared.syntax.Binder.{Binder}
use Rattle.sw_text.specs.declared.names.Place.{Place}
use Rattle.sw_text.specs.Names.{Around}
use Rattle.sw_text.specs.Texts.{HasFormula}
use Rattle.sw_text.specs.Scoped.{variables_of}
use Rattle.sw_text.proofs.scoped.read_formula.Goals as goal

pub returns-clause-no_other : goal.returns-clause-no_other
returns-clause-no_other c r h =
    let around : Place → Around = λ p. record { text = c.args.text.now; signature = c.args.signature.now; declared_too = []; place = p } in
    c.read_named.ensures.no_other r
    (subst (λ (others : List (List ℕ)). HasFormula (record { text = c.args.text.now; signature = c.args.signature.now; declared_too = others; place = c.in-Ok.place }) c.in-Ok-variables_of.variables.items r) (sym c.new.ensures)
    (subst (λ (vs : List Binder). HasFormula (around c.in-Ok.place) vs r) (sym c.in-Ok-variables_of.ensures)
    (subst (λ (p : Place). HasFormula (around p) (variables_of c.args.scope.now) r) (sym c.in-Ok.ensures) h)))
