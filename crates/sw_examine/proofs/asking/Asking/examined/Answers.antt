use Rattle.std.proofs.Common.{sym, subst, refl}
use Rattle.sw_template.specs.Bodies.{Class}
use Rattle.sw_queries.specs.Queries.{start_query_of}
use Rattle.sw_examine.specs.declared.examining.QueryName.TheVariants as name
use Rattle.sw_examine.specs.Answers.{IsAnswer}
use Rattle.sw_examine.specs.Examinations.{IsAsked}
use Rattle.sw_examine.proofs.Kept.{start_rejects}
use Rattle.sw_examine.proofs.asking.Asking.examined.Goals as goal

pub returns-in-Found : goal.returns-in-Found
returns-in-Found c =
    let p = c.args.self.now.protocol.now in
    let g = c.args.self.now.list.now in
    let f = c.args.self.now.formula.now in
    let ok = c.requires.well_formed in
    let budget = c.args.self.now.budget in
    let told = subst (IsAnswer (start_query_of p f) budget) c.in-Found.is c.in_ok-start.ensures in
    record { structure = c.in-Found.structure; is = refl; rejection = start_rejects p ok g f c.in-Found.structure told.satisfies; within = told.within }

pub returns-in_ok-body-in-Spent : goal.returns-in_ok-body-in-Spent
returns-in_ok-body-in-Spent c =
    let p = c.args.self.now.protocol.now in
    let g = c.args.self.now.list.now in
    let f = c.args.self.now.formula.now in
    let ok = c.requires.well_formed in
    let budget = c.args.self.now.budget in
    let told = subst (IsAnswer (start_query_of p f) budget) c.in-Spent.is c.in_ok-start.ensures in
    (start_query_of p f, subst (λ (b : Class). IsAsked p g f c.args.body.now (start_query_of p f) (name.Start b)) (sym c.in_ok-body-in-Spent.ensures) (IsAsked.start refl), told)

pub returns-in_ok-body-in-TooLarge : goal.returns-in_ok-body-in-TooLarge
returns-in_ok-body-in-TooLarge c =
    let p = c.args.self.now.protocol.now in
    let g = c.args.self.now.list.now in
    let f = c.args.self.now.formula.now in
    let ok = c.requires.well_formed in
    let budget = c.args.self.now.budget in
    let told = subst (IsAnswer (start_query_of p f) budget) c.in-TooLarge.is c.in_ok-start.ensures in
    (start_query_of p f, subst (λ (b : Class). IsAsked p g f c.args.body.now (start_query_of p f) (name.Start b)) (sym c.in_ok-body-in-TooLarge.ensures) (IsAsked.start refl), told)
