use Rattle.std.specs.Prelude.{Some}
use Rattle.std.specs.Option.{option_copied}
use Rattle.std.proofs.Common.{sym, subst}
use Rattle.sw_logic.specs.declared.syntax.Formula.{Formula}
use Rattle.sw_meaning.specs.Verdict.{Word}
use Rattle.sw_template.specs.Bodies.{Class}
use Rattle.sw_filter.specs.declared.filter.Mode.TheVariants.{Finish}
use Rattle.sw_enumerate.specs.Spaces.{Made, parts_in, formula_in}
use Rattle.sw_hand.specs.Hands.{search_of}
use Rattle.sw_seek.specs.Seeking.{CanFinish}
use Rattle.sw_finish.specs.Finished.{IsFinished}
use Rattle.sw_finish.specs.declared.finishing.Finished.TheVariants.{Joined, Exhausted}
use Rattle.sw_search.specs.Searches.{HasVerdict}
use Rattle.sw_search.specs.Spaces.{IsReadable}
use Rattle.sw_search.proofs.Finish.{can, joined, exhausted}
use Rattle.sw_search.proofs.Lists.{list_can}
use Rattle.sw_search.proofs.Searchable.{can_finish}
use Rattle.sw_search.proofs.finishing.finish_list.Goals as goal

pub finish-requires-clause-can : goal.finish-requires-clause-can
finish-requires-clause-can g c κs within =
    let found = c.args.found.now in
    let p = found.protocol.now in
    let first = option_copied found.breadth in
    let last = option_copied found.finish in
    let x = c.requires.can in
    let s = c.args.space.now in
    let list = found.list.now in
    subst (λ (s : Made). CanFinish p s.template (parts_in s) (IsReadable s) (λ b. formula_in s b.cubes) list found.budget) (sym c.new-classes.ensures)
    (can_finish p x.can.extra s x.well_formed (can p first last found.workers found.budget list s x c.requires.space c.requires.open_) x.can.stratified found.budget x.some list
    (list_can p first last found.workers found.budget list x))

pub returns-in-Ok-Joined : goal.returns-in-Ok-Joined
returns-in-Ok-Joined g c =
    let found = c.args.found.now in
    let p = found.protocol.now in
    let s = c.args.space.now in
    let list = found.list.now in
    let body = c.in-Ok-Joined.body in
    let start = c.in-Ok-Joined.field-0-1 in
    let steps = c.in-Ok-Joined.field-0-2 in
    let there = subst (IsFinished (search_of p c.new-classes.result.template Finish found.workers) list found.budget) c.in-Ok-Joined.field-0-is c.in-Ok-Joined.ensures.finished in
    let finished = subst (λ (s : Made). IsFinished (search_of p s.template Finish found.workers) list found.budget (Joined body start steps)) c.new-classes.ensures there in
    subst (λ (f : Formula). HasVerdict p (Some s.template) found.workers list (Word.safe_with f)) (sym c.in_ok-formula-in-Ok-Joined.ensures)
    (subst (λ (b : Class). HasVerdict p (Some s.template) found.workers list (Word.safe_with (formula_in s b.cubes))) (sym c.in-Ok-Joined.body-is)
    (joined p (option_copied found.breadth) (option_copied found.finish) found.workers found.budget list s c.requires.can c.requires.space c.requires.open_ body start steps finished))

pub returns-in-Ok-Exhausted : goal.returns-in-Ok-Exhausted
returns-in-Ok-Exhausted g c =
    let found = c.args.found.now in
    let p = found.protocol.now in
    let s = c.args.space.now in
    let list = found.list.now in
    let made = c.in-Ok-Exhausted.field-0-0 in
    let there = subst (IsFinished (search_of p c.new-classes.result.template Finish found.workers) list found.budget) c.in-Ok-Exhausted.field-0-is c.in-Ok-Exhausted.ensures.finished in
    exhausted p (option_copied found.breadth) (option_copied found.finish) found.workers found.budget list s c.requires.can c.requires.space c.requires.open_ made
    (subst (λ (s : Made). IsFinished (search_of p s.template Finish found.workers) list found.budget (Exhausted made)) c.new-classes.ensures there)
