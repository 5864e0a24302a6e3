use Rattle.std.proofs.Common.{length, sym, subst, refl}
use Rattle.sw_lists.proofs.Places.{get_some}
use Rattle.sw_template.specs.Bodies.{Class}
use Rattle.sw_queries.specs.Queries.{step_query_of}
use Rattle.sw_examine.specs.declared.examining.QueryName.TheVariants as name
use Rattle.sw_examine.specs.Examinations.{AreStepped, IsAsked}
use Rattle.sw_examine.proofs.Kept.{kept_by_all, refuted_below, not_kept}
use Rattle.sw_examine.proofs.asking.Asking.after_follow.Goals as goal

pub returns-in-Keep : goal.returns-in-Keep
returns-in-Keep c =
    let p = c.args.self.now.protocol.now in
    let g = c.args.self.now.list.now in
    let f = c.args.self.now.formula.now in
    let ok = c.requires.well_formed in
    let budget = c.args.self.now.budget in
    let refuted = subst (AreStepped p g f budget) c.in-Keep.is c.in_ok-steps.ensures in
    record {
      after_start = c.requires.novel;
      kept = kept_by_all p ok g f (refuted_below p ok g f budget (length p.transitions) c.in-Keep.steps refuted);
      cleared = c.requires.start;
      refuted = refuted;
    }

pub returns-in-Leaves : goal.returns-in-Leaves
returns-in-Leaves c =
    let p = c.args.self.now.protocol.now in
    let g = c.args.self.now.list.now in
    let f = c.args.self.now.formula.now in
    let ok = c.requires.well_formed in
    let budget = c.args.self.now.budget in
    let first = subst (AreStepped p g f budget) c.in-Leaves.is c.in_ok-steps.ensures in
    ((c.args.novel, c.requires.novel), first, not_kept p ok g f first.number c.in-Leaves.filter first.leaves)

pub returns-in_ok-body-in-Spent : goal.returns-in_ok-body-in-Spent
returns-in_ok-body-in-Spent c =
    let p = c.args.self.now.protocol.now in
    let g = c.args.self.now.list.now in
    let f = c.args.self.now.formula.now in
    let ok = c.requires.well_formed in
    let budget = c.args.self.now.budget in
    let told = subst (AreStepped p g f budget) c.in-Spent.is c.in_ok-steps.ensures in
    let n = c.in-Spent.transition in
    let t = get_some p.transitions n told.0 in (
      step_query_of p t.0 g f,
      subst (λ (b : Class). IsAsked p g f c.args.body.now (step_query_of p t.0 g f) (name.Step n b)) (sym c.in_ok-body-in-Spent.ensures)
          (IsAsked.step n t.0 c.args.novel t.1 refl c.requires.novel told.1),
      told.2 t.0 t.1,
    )

pub returns-in_ok-body-in-TooLarge : goal.returns-in_ok-body-in-TooLarge
returns-in_ok-body-in-TooLarge c =
    let p = c.args.self.now.protocol.now in
    let g = c.args.self.now.list.now in
    let f = c.args.self.now.formula.now in
    let ok = c.requires.well_formed in
    let budget = c.args.self.now.budget in
    let told = subst (AreStepped p g f budget) c.in-TooLarge.is c.in_ok-steps.ensures in
    let n = c.in-TooLarge.transition in
    let t = get_some p.transitions n told.0 in (
      step_query_of p t.0 g f,
      subst (λ (b : Class). IsAsked p g f c.args.body.now (step_query_of p t.0 g f) (name.Step n b)) (sym c.in_ok-body-in-TooLarge.ensures)
          (IsAsked.step n t.0 c.args.novel t.1 refl c.requires.novel told.1),
      told.2 t.0 t.1,
    )
