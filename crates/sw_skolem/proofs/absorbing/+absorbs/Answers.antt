use Rattle.std.proofs.Common.{◌≡◌, ◌∙◌, sym, ap, subst, true, false, map, List, IfOk}
use Rattle.sw_logic.specs.declared.syntax.Binder.{Binder}
use Rattle.sw_logic.specs.declared.syntax.Formula.{Formula}
use Rattle.sw_skolem.specs.Normal.{gathered, universal, existential}
use Rattle.sw_skolem.specs.Absorbing.{absorbed}
use Rattle.sw_skolem.proofs.Absorption.{absorbed_listed, absorbed_quantified}
use Rattle.sw_skolem.proofs.absorbing.+absorbs.Goals as goal

pub absorb-returns-in_ok-absorb_all-in-All : goal.absorb-returns-in_ok-absorb_all-in-All
absorb-returns-in_ok-absorb_all-in-All t c =
    let parts : c.in_ok-absorb_all-in-All.field-0 ≡ map absorbed c.in-All.parts = c.in_ok-absorb_all-in-All.ensures ∙ ap (λ (ps : List Formula). map absorbed ps) c.as_slice.ensures in
    c.gather.ensures ∙ (ap (gathered true) parts ∙ (sym (absorbed_listed true c.in-All.parts) ∙ ap absorbed (sym c.in-All.is)))

pub absorb-returns-in_ok-absorb_all-in-Any : goal.absorb-returns-in_ok-absorb_all-in-Any
absorb-returns-in_ok-absorb_all-in-Any t c =
    let parts : c.in_ok-absorb_all-in-Any.field-0 ≡ map absorbed c.in-Any.parts = c.in_ok-absorb_all-in-Any.ensures ∙ ap (λ (ps : List Formula). map absorbed ps) c.as_slice-in-Any.ensures in
    c.gather-in-Any.ensures ∙ (ap (gathered false) parts ∙ (sym (absorbed_listed false c.in-Any.parts) ∙ ap absorbed (sym c.in-Any.is)))

pub absorb-returns-in_ok-part-in-ForAll : goal.absorb-returns-in_ok-part-in-ForAll
absorb-returns-in_ok-part-in-ForAll t c =
    let part_is : c.in_ok-part-in-ForAll.part ≡ absorbed c.in-ForAll.part = c.in_ok-part-in-ForAll.ensures ∙ ap absorbed c.get.ensures in
    let whole_is : universal c.as_slice-in-ForAll.result.now c.in_ok-part-in-ForAll.part ≡ absorbed c.args.formula.now =
    ap (λ (bs : List Binder). universal bs c.in_ok-part-in-ForAll.part) c.as_slice-in-ForAll.ensures
    ∙ (ap (λ (f : Formula). universal c.in-ForAll.binders f) part_is ∙ (sym (absorbed_quantified true c.in-ForAll.binders c.in-ForAll.part) ∙ ap absorbed (sym c.in-ForAll.is))) in
    subst (λ (g : Formula). IfOk c.quantified.result (λ (f : Formula). f ≡ g)) whole_is c.quantified.ensures

pub absorb-returns-in_ok-part-in-Exists : goal.absorb-returns-in_ok-part-in-Exists
absorb-returns-in_ok-part-in-Exists t c =
    let part_is : c.in_ok-part-in-Exists.part ≡ absorbed c.in-Exists.part = c.in_ok-part-in-Exists.ensures ∙ ap absorbed c.get-in-Exists.ensures in
    let whole_is : existential c.as_slice-in-Exists.result.now c.in_ok-part-in-Exists.part ≡ absorbed c.args.formula.now =
    ap (λ (bs : List Binder). existential bs c.in_ok-part-in-Exists.part) c.as_slice-in-Exists.ensures
    ∙ (ap (λ (f : Formula). existential c.in-Exists.binders f) part_is ∙ (sym (absorbed_quantified false c.in-Exists.binders c.in-Exists.part) ∙ ap absorbed (sym c.in-Exists.is))) in
    subst (λ (g : Formula). IfOk c.quantified-in-Exists.result (λ (f : Formula). f ≡ g)) whole_is c.quantified-in-Exists.ensures
