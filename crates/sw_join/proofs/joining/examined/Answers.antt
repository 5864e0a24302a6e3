use Rattle.std.proofs.Common.{sym, subst, refl}
use Rattle.sw_template.specs.Bodies.{Class}
use Rattle.sw_queries.specs.Queries.{start_query_of}
use Rattle.sw_filter.specs.declared.filter.Filter.TheVariants as filter
use Rattle.sw_examine.specs.declared.examining.QueryName.TheVariants as name
use Rattle.sw_examine.specs.Answers.{IsAnswer}
use Rattle.sw_join.specs.Joining.{IsAsked, FailsAtStart}
use Rattle.sw_join.proofs.Joined.{start_rejects, start_does_not_join}
use Rattle.sw_join.proofs.joining.examined.Goals as goal

pub returns-in-Found : goal.returns-in-Found
returns-in-Found c =
    let p = c.args.asking.now.protocol.now in
    let g = c.args.asking.now.list.now in
    let f = c.args.asking.now.formula.now in
    let s = c.in-Found.structure in
    let told = subst (IsAnswer (start_query_of p f) c.args.asking.now.budget) c.in-Found.is c.in_ok-start.ensures in
    let rejection = start_rejects p c.requires.well_formed g f s told.satisfies in
    let fails : FailsAtStart p g f (filter.Start s) = record { structure = s; is = refl; rejection = rejection; within = told.within } in
    (fails, start_does_not_join p g f (filter.Start s) fails)

pub returns-in_ok-body-in-Spent : goal.returns-in_ok-body-in-Spent
returns-in_ok-body-in-Spent c =
    let p = c.args.asking.now.protocol.now in
    let g = c.args.asking.now.list.now in
    let f = c.args.asking.now.formula.now in
    let told = subst (IsAnswer (start_query_of p f) c.args.asking.now.budget) c.in-Spent.is c.in_ok-start.ensures in
    let q = start_query_of p f in
    (q, subst (λ (b : Class). IsAsked p g f c.args.body.now q (name.Start b)) (sym c.in_ok-body-in-Spent.ensures) (IsAsked.start refl), told)

pub returns-in_ok-body-in-TooLarge : goal.returns-in_ok-body-in-TooLarge
returns-in_ok-body-in-TooLarge c =
    let p = c.args.asking.now.protocol.now in
    let g = c.args.asking.now.list.now in
    let f = c.args.asking.now.formula.now in
    let told = subst (IsAnswer (start_query_of p f) c.args.asking.now.budget) c.in-TooLarge.is c.in_ok-start.ensures in
    let q = start_query_of p f in
    (q, subst (λ (b : Class). IsAsked p g f c.args.body.now q (name.Start b)) (sym c.in_ok-body-in-TooLarge.ensures) (IsAsked.start refl), told)
