use Rattle.std.proofs.Common.{◌≡◌, List, sym, ap, ◌∙◌, subst, refl}
use Rattle.sw_logic.specs.declared.syntax.Formula.{Formula}
use Rattle.sw_logic.specs.declared.query.Query.{Query}
use Rattle.sw_meaning.specs.Inductive.{Follows, Kept}
use Rattle.sw_queries.specs.Counterexamples.{DoesNotFollow}
use Rattle.sw_template.specs.Bodies.{Class}
use Rattle.sw_examine.specs.Answers.{IsSpentBy, IsTooLargeBy}
use Rattle.sw_examine.specs.Examinations.{IsExamined, Rejection}
use Rattle.sw_core.specs.Machine.{Search}
use Rattle.sw_work.specs.Works.{bodies_of}
use Rattle.sw_work.specs.Steps.{IsTried, searched}
use Rattle.sw_work.proofs.Asked.{has_it, can_ask, gains_of, rejects_of, asked_under}
use Rattle.sw_work.proofs.bench.Desk.examine_in_order.Goals as goal

pub examine-requires-clause-body : goal.examine-requires-clause-body
examine-requires-clause-body g c =
    let task = c.args.self.now.task.now in
    let m : Search = searched g.B.Walk.template task in
    let p = task.protocol.now in
    let body : Class = c.args.body.now in
    let f : Formula = g.B.Candidates.formula_of task.space.now body in
    let formulas : List Formula = c.args.bench.now.formulas in
    let fs : List Formula = c.as_slice.result.now in
    let e : fs ≡ formulas = c.as_slice.ensures in
    let k = c.requires.class in
    has_it g.B.Walk.template g.B.Walk.part_lists g.B.Candidates.has g.B.Candidates.formula_of task c.args.self.now.budget c.requires.can body k

pub examine-requires-clause-ask : goal.examine-requires-clause-ask
examine-requires-clause-ask g c =
    let task = c.args.self.now.task.now in
    let m : Search = searched g.B.Walk.template task in
    let p = task.protocol.now in
    let body : Class = c.args.body.now in
    let f : Formula = g.B.Candidates.formula_of task.space.now body in
    let formulas : List Formula = c.args.bench.now.formulas in
    let fs : List Formula = c.as_slice.result.now in
    let e : fs ≡ formulas = c.as_slice.ensures in
    let k = c.requires.class in
    can_ask g.B.Walk.template g.B.Walk.part_lists g.B.Candidates.has g.B.Candidates.formula_of task c.args.self.now.budget c.requires.can fs c.args.seat.now.view.seen body (e ∙ c.requires.stands.fits.are) k

pub returns-in-Follows-clause-tried : goal.returns-in-Follows-clause-tried
returns-in-Follows-clause-tried g c =
    let task = c.args.self.now.task.now in
    let m : Search = searched g.B.Walk.template task in
    let p = task.protocol.now in
    let body : Class = c.args.body.now in
    let f : Formula = g.B.Candidates.formula_of task.space.now body in
    let formulas : List Formula = c.args.bench.now.formulas in
    let fs : List Formula = c.as_slice.result.now in
    let e : fs ≡ formulas = c.as_slice.ensures in
    let k = c.requires.class in
    subst (IsTried m c.args.seat.now.view c.args.seat.now.view c.args.bench.now c.remember.new.bench body) (sym c.in_ok-remember-in-Follows.ensures.tried) (refl, c.in_ok-remember-in-Follows.ensures.good)

pub remember-requires-clause-follows : goal.remember-requires-clause-follows
remember-requires-clause-follows g c =
    let task = c.args.self.now.task.now in
    let p = task.protocol.now in
    let body : Class = c.args.body.now in
    let f : Formula = g.B.Candidates.formula_of task.space.now body in
    let fs : List Formula = c.as_slice.result.now in
    let e : fs ≡ c.args.bench.now.formulas = c.as_slice.ensures in
    let told = subst (IsExamined p fs f c.args.self.now.budget body) c.in-Follows.is c.in_ok-found.ensures in
    subst (λ x. Follows p x f) e told.2

pub keep-requires-clause-rejects : goal.keep-requires-clause-rejects
keep-requires-clause-rejects g c =
    let task = c.args.self.now.task.now in
    let m : Search = searched g.B.Walk.template task in
    let p = task.protocol.now in
    let body : Class = c.args.body.now in
    let f : Formula = g.B.Candidates.formula_of task.space.now body in
    let formulas : List Formula = c.args.bench.now.formulas in
    let fs : List Formula = c.as_slice.result.now in
    let e : fs ≡ formulas = c.as_slice.ensures in
    let k = c.requires.class in
    let told = subst (IsExamined p fs f c.args.self.now.budget body) c.in-StartFails.is c.in_ok-found.ensures in
    rejects_of g.B.Walk.template g.B.Walk.part_lists g.B.Candidates.has g.B.Candidates.formula_of task c.args.self.now.budget c.requires.can formulas body c.in-StartFails.filter k (subst (λ x. Rejection p x f c.in-StartFails.filter) e told.rejection)

pub returns-in-StartFails-clause-tried : goal.returns-in-StartFails-clause-tried
returns-in-StartFails-clause-tried g c =
    let task = c.args.self.now.task.now in
    let m : Search = searched g.B.Walk.template task in
    let p = task.protocol.now in
    let body : Class = c.args.body.now in
    let f : Formula = g.B.Candidates.formula_of task.space.now body in
    let formulas : List Formula = c.args.bench.now.formulas in
    let fs : List Formula = c.as_slice.result.now in
    let e : fs ≡ formulas = c.as_slice.ensures in
    let k = c.requires.class in
    subst (IsTried m c.args.seat.now.view c.args.seat.now.view c.args.bench.now c.keep.new.bench body) (sym c.in_ok-keep-in-StartFails.ensures.tried) (refl, c.in_ok-keep-in-StartFails.ensures.good)

pub keep-requires-in-NotKept-clause-rejects : goal.keep-requires-in-NotKept-clause-rejects
keep-requires-in-NotKept-clause-rejects g c =
    let task = c.args.self.now.task.now in
    let m : Search = searched g.B.Walk.template task in
    let p = task.protocol.now in
    let body : Class = c.args.body.now in
    let f : Formula = g.B.Candidates.formula_of task.space.now body in
    let formulas : List Formula = c.args.bench.now.formulas in
    let fs : List Formula = c.as_slice.result.now in
    let e : fs ≡ formulas = c.as_slice.ensures in
    let k = c.requires.class in
    let told = subst (IsExamined p fs f c.args.self.now.budget body) c.in-NotKept.is c.in_ok-found.ensures in
    rejects_of g.B.Walk.template g.B.Walk.part_lists g.B.Candidates.has g.B.Candidates.formula_of task c.args.self.now.budget c.requires.can formulas body c.in-NotKept.filter k (subst (λ x. Rejection p x f c.in-NotKept.filter) e told.1.leaves.rejection)

pub returns-in-NotKept-clause-tried : goal.returns-in-NotKept-clause-tried
returns-in-NotKept-clause-tried g c =
    let task = c.args.self.now.task.now in
    let m : Search = searched g.B.Walk.template task in
    let p = task.protocol.now in
    let body : Class = c.args.body.now in
    let f : Formula = g.B.Candidates.formula_of task.space.now body in
    let formulas : List Formula = c.args.bench.now.formulas in
    let fs : List Formula = c.as_slice.result.now in
    let e : fs ≡ formulas = c.as_slice.ensures in
    let k = c.requires.class in
    subst (IsTried m c.args.seat.now.view c.args.seat.now.view c.args.bench.now c.keep-in-NotKept.new.bench body) (sym c.in_ok-keep-in-NotKept.ensures.tried) (refl, c.in_ok-keep-in-NotKept.ensures.good)

pub append-requires-clause-gains : goal.append-requires-clause-gains
append-requires-clause-gains g c =
    let task = c.args.self.now.task.now in
    let m : Search = searched g.B.Walk.template task in
    let p = task.protocol.now in
    let body : Class = c.args.body.now in
    let f : Formula = g.B.Candidates.formula_of task.space.now body in
    let formulas : List Formula = c.args.bench.now.formulas in
    let fs : List Formula = c.as_slice.result.now in
    let e : fs ≡ formulas = c.as_slice.ensures in
    let k = c.requires.class in
    let told = subst (IsExamined p fs f c.args.self.now.budget body) c.in-Earned.is c.in_ok-found.ensures in
    gains_of g.B.Walk.template g.B.Walk.part_lists g.B.Candidates.has g.B.Candidates.formula_of task c.args.self.now.budget c.requires.can formulas body k told.after_start.start.holds (subst (λ x. Kept p x f) e told.kept) c.in-Earned.novel (subst (λ x. DoesNotFollow p x f c.in-Earned.novel) e told.after_start.shows)

pub returns-in-Spent-clause-cause : goal.returns-in-Spent-clause-cause
returns-in-Spent-clause-cause g c =
    let task = c.args.self.now.task.now in
    let m : Search = searched g.B.Walk.template task in
    let p = task.protocol.now in
    let body : Class = c.args.body.now in
    let f : Formula = g.B.Candidates.formula_of task.space.now body in
    let formulas : List Formula = c.args.bench.now.formulas in
    let fs : List Formula = c.as_slice.result.now in
    let e : fs ≡ formulas = c.as_slice.ensures in
    let k = c.requires.class in
    let told = subst (IsExamined p fs f c.args.self.now.budget body) c.in-Spent.is c.in_ok-found.ensures in
    let list : c.in_ok-list-in-Spent.list ≡ bodies_of c.args.seat.now.view.seen = c.in_ok-list-in-Spent.ensures ∙ (ap bodies_of c.deref.ensures.value ∙ ap bodies_of c.requires.stands.listed) in
    record {
      cause = asked_under g.B.Walk.template g.B.Walk.part_lists g.B.Candidates.has g.B.Candidates.formula_of task c.args.self.now.budget c.requires.can c.args.seat.now.view.seen fs body c.in_ok-list-in-Spent.list c.in-Spent.query (λ (q : Query). IsSpentBy q c.args.self.now.budget c.in-Spent.steps) told.0 k (e ∙ c.requires.stands.fits.are) list told.1 told.2;
      listed = (list, refl);
    }

pub returns-clause-cause : goal.returns-clause-cause
returns-clause-cause g c =
    let task = c.args.self.now.task.now in
    let m : Search = searched g.B.Walk.template task in
    let p = task.protocol.now in
    let body : Class = c.args.body.now in
    let f : Formula = g.B.Candidates.formula_of task.space.now body in
    let formulas : List Formula = c.args.bench.now.formulas in
    let fs : List Formula = c.as_slice.result.now in
    let e : fs ≡ formulas = c.as_slice.ensures in
    let k = c.requires.class in
    let told = subst (IsExamined p fs f c.args.self.now.budget body) c.in-TooLarge.is c.in_ok-found.ensures in
    let list : c.in_ok-list-in-TooLarge.list ≡ bodies_of c.args.seat.now.view.seen = c.in_ok-list-in-TooLarge.ensures ∙ (ap bodies_of c.deref-in-TooLarge.ensures.value ∙ ap bodies_of c.requires.stands.listed) in
    record {
      cause = asked_under g.B.Walk.template g.B.Walk.part_lists g.B.Candidates.has g.B.Candidates.formula_of task c.args.self.now.budget c.requires.can c.args.seat.now.view.seen fs body c.in_ok-list-in-TooLarge.list c.in-TooLarge.query (λ (q : Query). IsTooLargeBy q c.in-TooLarge.size) told.0 k (e ∙ c.requires.stands.fits.are) list told.1 told.2;
      listed = (list, refl);
    }
