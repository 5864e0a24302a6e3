use Rattle.std.proofs.Common.{◌∙◌, sym}
use Rattle.sw_logic.specs.Truth.{truth}
use Rattle.sw_logic.proofs.Ranges.{for_all-at, for_all-from, exists-some, exists-at}
use Rattle.sw_logic.proofs.Steps.{truth-ForAll, truth-Exists}
use Rattle.sw_logic.proofs.laws.quantifiers_range.Goals as goal

pub returns : goal.returns
returns c = λ w binders part env.
    let sizes = w.before.sizes in
    let all = truth-ForAll w binders part env in
    let some = truth-Exists w binders part env in
    record {
      all = (λ e vs h. for_all-at sizes binders (truth w part) env vs (sym all ∙ e) h, λ f. all ∙ for_all-from sizes binders (truth w part) env f);
      some = (λ e. exists-some sizes binders (truth w part) env (sym some ∙ e), λ s. some ∙ exists-at sizes binders (truth w part) env s.0 s.1 s.2);
    }
