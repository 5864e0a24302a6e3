use Rattle.std.specs.Prelude.{◌≡◌, map, Some}
use Rattle.std.proofs.Common.{sym, ap, subst, ◌∙◌}
use Rattle.sw_meaning.specs.Plain.{PlainList}
use Rattle.sw_filter.specs.declared.filter.Mode.TheVariants.{Breadth}
use Rattle.sw_enumerate.specs.Spaces.{Made, parts_in, formula_in}
use Rattle.sw_log.specs.declared.entry.Entry.{Entry}
use Rattle.sw_hand.specs.Hands.{search_of}
use Rattle.sw_work.specs.Works.{CanSearch}
use Rattle.sw_breadth.specs.Rounds.{IsGathered, listed}
use Rattle.sw_search.specs.Searches.{IsList}
use Rattle.sw_search.specs.Spaces.{IsReadable}
use Rattle.sw_search.proofs.Breadth.{is_list}
use Rattle.sw_search.proofs.Searchable.{can_search}
use Rattle.sw_search.proofs.listing.Pass.list.Goals as goal

pub breadth-requires-clause-can : goal.breadth-requires-clause-can
breadth-requires-clause-can g c κs within =
    let pass = c.args.self.now in
    let p = pass.protocol.now in
    let can = c.requires.can in
    subst (λ (s : Made). CanSearch p s.template (parts_in s) (IsReadable s) (λ b. formula_in s b.cubes) pass.budget) (sym c.new-classes.ensures)
    (can_search p can.extra pass.space.now c.requires.well_formed can.breadth can.stratified pass.budget c.requires.some)

pub returns-in_ok-formulas-in-Ok : goal.returns-in_ok-formulas-in-Ok
returns-in_ok-formulas-in-Ok g c =
    let pass = c.args.self.now in
    let p = pass.protocol.now in
    let s = pass.space.now in
    let made = c.in-Ok.record_ in
    let whole = subst (λ (s : Made). IsGathered (search_of p s.template Breadth pass.workers) made) c.new-classes.ensures c.in-Ok.ensures.gathered in
    let plain = subst (λ (s : Made). pass.workers ≡ 1 → PlainList p s.template (listed made)) c.new-classes.ensures c.in-Ok.ensures.plain in
    let same = c.in_ok-formulas-in-Ok.ensures ∙ ap (map (λ (e : Entry). formula_in s e.body.cubes)) c.as_slice.ensures in
    subst (IsList p (Some s.template) pass.workers) (sym same) (is_list p s c.requires.well_formed c.requires.can pass.workers made whole plain)
