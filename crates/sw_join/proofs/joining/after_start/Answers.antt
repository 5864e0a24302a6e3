use Rattle.std.proofs.Common.{length, sym, subst, refl}
use Rattle.sw_lists.proofs.Places.{get_some}
use Rattle.sw_template.specs.Bodies.{Class}
use Rattle.sw_examine.specs.declared.examining.QueryName.TheVariants as name
use Rattle.sw_examine.specs.Examinations.{IsTrueAtStart}
use Rattle.sw_examine.proofs.Kept.{at_start}
use Rattle.sw_join.specs.Joining.{join_of, AreStepped, IsAsked}
use Rattle.sw_join.proofs.Joined.{refuted_below, joins_by_all, move_does_not_join, bad_does_not_join}
use Rattle.sw_join.proofs.joining.after_start.Goals as goal

pub returns-in-Join : goal.returns-in-Join
returns-in-Join c =
    let p = c.args.asking.now.protocol.now in
    let g = c.args.asking.now.list.now in
    let f = c.args.asking.now.formula.now in
    let ok = c.requires.well_formed in
    let budget = c.args.asking.now.budget in
    let refuted = subst (AreStepped p g f budget) c.in-Join.is c.in_ok-steps.ensures in
    let start = at_start p ok g f budget c.args.start c.requires.start in
    record {
      start = record { holds = start; within = c.requires.start.within };
      joins = joins_by_all p ok g f start (refuted_below p ok g f budget (length p.transitions) c.in-Join.steps refuted);
      cleared = c.requires.start;
      refuted = refuted;
    }

pub returns-in-Leaves : goal.returns-in-Leaves
returns-in-Leaves c =
    let p = c.args.asking.now.protocol.now in
    let g = c.args.asking.now.list.now in
    let f = c.args.asking.now.formula.now in
    let ok = c.requires.well_formed in
    let budget = c.args.asking.now.budget in
    let start : IsTrueAtStart p g f = record { holds = at_start p ok g f budget c.args.start c.requires.start; within = c.requires.start.within } in
    let first = subst (AreStepped p g f budget) c.in-Leaves.is c.in_ok-steps.ensures in
    (start, first, move_does_not_join p g f first.number c.in-Leaves.filter first.leaves)

pub returns-in-Bad : goal.returns-in-Bad
returns-in-Bad c =
    let p = c.args.asking.now.protocol.now in
    let g = c.args.asking.now.list.now in
    let f = c.args.asking.now.formula.now in
    let ok = c.requires.well_formed in
    let budget = c.args.asking.now.budget in
    let start : IsTrueAtStart p g f = record { holds = at_start p ok g f budget c.args.start c.requires.start; within = c.requires.start.within } in
    let first = subst (AreStepped p g f budget) c.in-Bad.is c.in_ok-steps.ensures in
    (start, first, bad_does_not_join p g f first.number c.in-Bad.filter first.leaves)

pub returns-in_ok-body-in-Spent : goal.returns-in_ok-body-in-Spent
returns-in_ok-body-in-Spent c =
    let p = c.args.asking.now.protocol.now in
    let g = c.args.asking.now.list.now in
    let f = c.args.asking.now.formula.now in
    let ok = c.requires.well_formed in
    let budget = c.args.asking.now.budget in
    let told = subst (AreStepped p g f budget) c.in-Spent.is c.in_ok-steps.ensures in
    let n = c.in-Spent.transition in
    let t = get_some p.transitions n told.0 in
    let start : IsTrueAtStart p g f = record { holds = at_start p ok g f budget c.args.start c.requires.start; within = c.requires.start.within } in (
      join_of p g f t.0,
      subst (λ (b : Class). IsAsked p g f c.args.body.now (join_of p g f t.0) (name.Join n b)) (sym c.in_ok-body-in-Spent.ensures)
          (IsAsked.join n t.0 t.1 refl start told.1),
      told.2 t.0 t.1,
    )

pub returns-in_ok-body-in-TooLarge : goal.returns-in_ok-body-in-TooLarge
returns-in_ok-body-in-TooLarge c =
    let p = c.args.asking.now.protocol.now in
    let g = c.args.asking.now.list.now in
    let f = c.args.asking.now.formula.now in
    let ok = c.requires.well_formed in
    let budget = c.args.asking.now.budget in
    let told = subst (AreStepped p g f budget) c.in-TooLarge.is c.in_ok-steps.ensures in
    let n = c.in-TooLarge.transition in
    let t = get_some p.transitions n told.0 in
    let start : IsTrueAtStart p g f = record { holds = at_start p ok g f budget c.args.start c.requires.start; within = c.requires.start.within } in (
      join_of p g f t.0,
      subst (λ (b : Class). IsAsked p g f c.args.body.now (join_of p g f t.0) (name.Join n b)) (sym c.in_ok-body-in-TooLarge.ensures)
          (IsAsked.join n t.0 t.1 refl start told.1),
      told.2 t.0 t.1,
    )
