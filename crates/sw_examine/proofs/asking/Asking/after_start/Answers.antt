use Rattle.std.proofs.Common.{sym, subst, refl}
use Rattle.sw_template.specs.Bodies.{Class}
use Rattle.sw_queries.specs.Queries.{follow_query_of}
use Rattle.sw_examine.specs.declared.examining.QueryName.TheVariants as name
use Rattle.sw_examine.specs.Answers.{IsAnswer}
use Rattle.sw_examine.specs.Examinations.{IsAsked}
use Rattle.sw_examine.proofs.Kept.{at_start, follows, does_not_follow}
use Rattle.sw_examine.proofs.asking.Asking.after_start.Goals as goal

pub returns-in-Refuted : goal.returns-in-Refuted
returns-in-Refuted c =
    let p = c.args.self.now.protocol.now in
    let g = c.args.self.now.list.now in
    let f = c.args.self.now.formula.now in
    let ok = c.requires.well_formed in
    let budget = c.args.self.now.budget in
    let told = subst (IsAnswer (follow_query_of p g f) budget) c.in-Refuted.is c.in_ok-refutation.ensures in
    (record { holds = at_start p ok g f budget c.args.start c.requires.start; within = c.requires.start.within }, told, follows p ok g f budget c.in-Refuted.refutation told)

pub after_follow-requires-clause-novel : goal.after_follow-requires-clause-novel
after_follow-requires-clause-novel c =
    let p = c.args.self.now.protocol.now in
    let g = c.args.self.now.list.now in
    let f = c.args.self.now.formula.now in
    let ok = c.requires.well_formed in
    let budget = c.args.self.now.budget in
    let told = subst (IsAnswer (follow_query_of p g f) budget) c.in-Found.is c.in_ok-refutation.ensures in
    record {
      start = record { holds = at_start p ok g f budget c.args.start c.requires.start; within = c.requires.start.within };
      shows = does_not_follow p ok g f c.in-Found.novel told.satisfies;
      within = told.within;
    }

pub returns-in_ok-body-in-Spent : goal.returns-in_ok-body-in-Spent
returns-in_ok-body-in-Spent c =
    let p = c.args.self.now.protocol.now in
    let g = c.args.self.now.list.now in
    let f = c.args.self.now.formula.now in
    let ok = c.requires.well_formed in
    let budget = c.args.self.now.budget in
    let told = subst (IsAnswer (follow_query_of p g f) budget) c.in-Spent.is c.in_ok-refutation.ensures in
    (follow_query_of p g f, subst (λ (b : Class). IsAsked p g f c.args.body.now (follow_query_of p g f) (name.Follow b)) (sym c.in_ok-body-in-Spent.ensures) (IsAsked.follow refl (record { holds = at_start p ok g f budget c.args.start c.requires.start; within = c.requires.start.within })), told)

pub returns-in_ok-body-in-TooLarge : goal.returns-in_ok-body-in-TooLarge
returns-in_ok-body-in-TooLarge c =
    let p = c.args.self.now.protocol.now in
    let g = c.args.self.now.list.now in
    let f = c.args.self.now.formula.now in
    let ok = c.requires.well_formed in
    let budget = c.args.self.now.budget in
    let told = subst (IsAnswer (follow_query_of p g f) budget) c.in-TooLarge.is c.in_ok-refutation.ensures in
    (follow_query_of p g f, subst (λ (b : Class). IsAsked p g f c.args.body.now (follow_query_of p g f) (name.Follow b)) (sym c.in_ok-body-in-TooLarge.ensures) (IsAsked.follow refl (record { holds = at_start p ok g f budget c.args.start c.requires.start; within = c.requires.start.within })), told)
