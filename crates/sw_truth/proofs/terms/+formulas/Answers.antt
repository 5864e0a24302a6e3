use Rattle.std.proofs.Common.{◌∙◌, sym, ap, inl, inr}
use Rattle.std.specs.List.{list_any}
use Rattle.sw_logic.specs.Terms.{occurs}
use Rattle.sw_truth.proofs.Occurring.{occurs-All, occurs-Any}
use Rattle.sw_truth.proofs.terms.+formulas.Goals as goal

pub occurs-returns-in-All : goal.occurs-returns-in-All
occurs-returns-in-All t c =
    let v = c.args.variable in
    let parts = c.any_occurs.ensures ∙ ap (list_any (occurs v)) c.as_slice-in-All.ensures in
    elim c.in-All.is [
      | inl e ↦ parts ∙ (sym (occurs-All v c.in-All.parts) ∙ ap (occurs v) (sym e))
      | inr e ↦ parts ∙ (sym (occurs-Any v c.in-All.parts) ∙ ap (occurs v) (sym e))
    ]
