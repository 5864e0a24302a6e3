use Rattle.std.proofs.Common.{◌∙◌, sym, ap}
use Rattle.std.specs.List.{list_any}
use Rattle.sw_logic.specs.Terms.{has}
use Rattle.sw_truth.proofs.Ranging.{has-args}
use Rattle.sw_truth.proofs.terms.+terms.Goals as goal

pub has-returns-in-Apply : goal.has-returns-in-Apply
has-returns-in-Apply t c =
    let v = c.args.variable in
    c.any_has.ensures ∙ (ap (list_any (has v)) c.as_slice.ensures ∙ (sym (has-args v c.in-Apply.symbol c.in-Apply.post c.in-Apply.args) ∙ ap (has v) (sym c.in-Apply.is)))
