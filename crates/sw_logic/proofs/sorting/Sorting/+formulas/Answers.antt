use Rattle.std.proofs.Common.{◌≡◌, ◌∙◌, ap, sym, inl, inr}
use Rattle.std.specs.List.{list_all}
use Rattle.sw_logic.specs.InScope.{sorts_in}
use Rattle.sw_logic.specs.Sorted.{well_sorted}
use Rattle.sw_logic.proofs.Steps.{sorted-All, sorted-Any}
use Rattle.sw_logic.proofs.sorting.Sorting.+formulas.Goals as goal

pub is_sorted-returns-in-All : goal.is_sorted-returns-in-All
is_sorted-returns-in-All t c =
    let sig = c.args.self.now.signature.now in
    let post = c.args.self.now.post in
    let scope = sorts_in c.args.scope.now in
    let all : c.all_sorted.result ≡ list_all (λ p. well_sorted sig post p scope) c.as_slice-in-All.result.now = c.all_sorted.ensures in
    let each = all ∙ ap (list_all (λ p. well_sorted sig post p scope)) c.as_slice-in-All.ensures in
    elim c.in-All.is [
      | inl e ↦ each ∙ sym (sorted-All sig post c.in-All.parts scope) ∙ ap (λ f. well_sorted sig post f scope) (sym e)
      | inr e ↦ each ∙ sym (sorted-Any sig post c.in-All.parts scope) ∙ ap (λ f. well_sorted sig post f scope) (sym e)
    ]
