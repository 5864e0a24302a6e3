use Rattle.std.proofs.Common.{◌≡◌, ◌<◌, ◌*◌, ◌∙◌, Some, sym, ap, subst, ◌++◌, ◌∷◌, [], ℕ, List, length, take, slice_get, arith}
use Rattle.std.specs.List.{All}
use Rattle.std.proofs.lemmas.Option.{same_Some, slice_get_within}
use Rattle.sw_refute.specs.declared.clauses.Clause.{Clause}
use Rattle.sw_refute.specs.Satisfaction.{negation, variable}
use Rattle.sw_sat.specs.Analysis.{IsSeen}
use Rattle.sw_sat.specs.Trail.{all_clauses, Forces, literals}
use Rattle.sw_sat.proofs.Founded.{read_at, over_at}
use Rattle.sw_sat.proofs.Negation.{number_below, negation_below}
use Rattle.sw_sat.proofs.SeenLiterals.{not_met_at}
use Rattle.sw_sat.proofs.Resolution.{skips, resolves}
use Rattle.sw_sat.proofs.analyze.Analysis.resolve.Goals as goal

pub has_seen-requires : goal.has_seen-requires
has_seen-requires c =
    let e = c.index-entry.result.now in
    let is : slice_get c.args.trail.now.entries.items c.args.at ≡ Some e = read_at c.args.trail.now.entries.items c.args.at e c.requires.within c.index-entry.ensures in
    let over : variable e.lit < c.args.cnf.now.variables = (c.requires.trail.each c.args.at e is).over in
    let below : e.lit.0 < 2 * c.args.cnf.now.variables = number_below c.args.cnf.now.variables e.lit over in
    omega arith

pub returns-then-not-has_seen-clause-leads : goal.returns-then-not-has_seen-clause-leads
returns-then-not-has_seen-clause-leads c =
    let entries = c.args.trail.now.entries.items in
    let e = c.index-entry.result.now in
    let is : slice_get entries c.args.at ≡ Some e = read_at entries c.args.at e c.requires.within c.index-entry.ensures in
    skips (all_clauses c.args.cnf.now c.args.steps.now) entries c.args.self.now.seen.items c.args.self.now.hints.items c.args.at c.requires.leads
    (not_met_at c.args.self.now.seen.items entries c.args.at e is (sym c.has_seen.ensures ∙ c.if-not-has_seen.true))

pub overflow_cast-reason : goal.overflow_cast-reason
overflow_cast-reason c =
    let entries = c.args.trail.now.entries.items in
    let clauses = all_clauses c.args.cnf.now c.args.steps.now in
    let e = c.index-entry.result.now in
    let is : slice_get entries c.args.at ≡ Some e = read_at entries c.args.at e c.requires.within c.index-entry.ensures in
    let f : Forces clauses (literals (take c.args.at entries)) c.in-Some.reason e.lit = (c.requires.trail.each c.args.at e is).forced c.in-Some.reason c.in-Some.is in
    let h : c.in-Some.reason < length clauses = slice_get_within clauses c.in-Some.reason f.clause f.is in
    omega arith

pub clause_at-requires : goal.clause_at-requires
clause_at-requires c =
    let entries = c.args.trail.now.entries.items in
    let clauses = all_clauses c.args.cnf.now c.args.steps.now in
    let e = c.index-entry.result.now in
    let is : slice_get entries c.args.at ≡ Some e = read_at entries c.args.at e c.requires.within c.index-entry.ensures in
    let f : Forces clauses (literals (take c.args.at entries)) c.in-Some.reason e.lit = (c.requires.trail.each c.args.at e is).forced c.in-Some.reason c.in-Some.is in
    slice_get_within clauses c.in-Some.reason f.clause f.is

pub mark-requires : goal.mark-requires
mark-requires c = λ k d h.
    let clauses = all_clauses c.args.cnf.now c.args.steps.now in
    let over = over_at c.args.cnf.now.variables clauses c.in-Some.reason c.clause_at.result.now c.requires.over c.clause_at.ensures in
    omega (arith, negation_below c.args.cnf.now.variables _ (over k d h))

pub returns-in_ok-push-clause-leads : goal.returns-in_ok-push-clause-leads
returns-in_ok-push-clause-leads c =
    let entries = c.args.trail.now.entries.items in
    let clauses = all_clauses c.args.cnf.now c.args.steps.now in
    let e = c.index-entry.result.now in
    let is : slice_get entries c.args.at ≡ Some e = read_at entries c.args.at e c.requires.within c.index-entry.ensures in
    let f : Forces clauses (literals (take c.args.at entries)) c.in-Some.reason e.lit = (c.requires.trail.each c.args.at e is).forced c.in-Some.reason c.in-Some.is in
    let same : c.clause_at.result.now ≡ f.clause = same_Some c.clause_at.result.now f.clause (sym c.clause_at.ensures ∙ f.is) in
    resolves clauses entries c.args.self.now.seen.items c.mark.new.self.seen.items c.args.self.now.hints.items c.push.new.self.items c.args.at c.in-Some.reason e c.requires.leads is f
    (subst (λ (x : Clause). All (λ l. IsSeen c.mark.new.self.seen.items (negation l)) x.lits) same c.mark.ensures.marks)
    c.mark.ensures.keeps (c.in_ok-push.ensures.items ∙ ap (λ (used : List ℕ). used ++ c.in-Some.reason ∷ []) c.mark.ensures.hints)

pub returns-in_default-clause-leads : goal.returns-in_default-clause-leads
returns-in_default-clause-leads c =
    let entries = c.args.trail.now.entries.items in
    let e = c.index-entry.result.now in
    let is : slice_get entries c.args.at ≡ Some e = read_at entries c.args.at e c.requires.within c.index-entry.ensures in
    absurd (c.requires.forced (record { entry = e; is = is; decided = c.in_default.is }))
