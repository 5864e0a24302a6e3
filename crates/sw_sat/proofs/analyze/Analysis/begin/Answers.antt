use Rattle.std.proofs.Common.{◌≡◌, ◌∙◌, sym, ap, subst, ◌++◌, ◌∷◌, [], ℕ, List}
use Rattle.std.specs.List.{All}
use Rattle.std.proofs.lemmas.Option.{same_Some}
use Rattle.sw_refute.specs.declared.clauses.Clause.{Clause}
use Rattle.sw_refute.specs.Satisfaction.{negation}
use Rattle.sw_sat.specs.Analysis.{IsSeen}
use Rattle.sw_sat.specs.Trail.{all_clauses}
use Rattle.sw_sat.proofs.Resolution.{begins}
use Rattle.sw_sat.proofs.analyze.Analysis.begin.Goals as goal

pub returns-clause-leads : goal.returns-clause-leads
returns-clause-leads c =
    let f = c.requires.conflict in
    let same : c.clause_at.result.now ≡ f.clause = same_Some c.clause_at.result.now f.clause (sym c.clause_at.ensures ∙ f.is) in
    begins (all_clauses c.args.cnf.now c.args.steps.now) c.args.trail.now.entries.items c.mark.new.self.seen.items c.push.new.self.items c.args.conflict f.clause f.is f.false
    (subst (λ (x : Clause). All (λ l. IsSeen c.mark.new.self.seen.items (negation l)) x.lits) same c.mark.ensures.marks)
    (c.in_ok-push.ensures.items ∙ ap (λ (used : List ℕ). used ++ c.args.conflict ∷ []) (c.mark.ensures.hints ∙ c.requires.hints))
