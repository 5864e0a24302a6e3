use Rattle.std.proofs.Common.{◌≡◌, ◌∙◌, Some, sym, subst, length, arith, true, false, eqb}
use Rattle.std.specs.Option.{option_eq}
use Rattle.sw_refute.specs.Propagation.{IsAccepted}
use Rattle.sw_sat.specs.Analysis.{IsLearnt}
use Rattle.sw_sat.specs.Trail.{all_clauses}
use Rattle.sw_sat.proofs.Turning.{refuted, spent, learnt_turn, option_is, option_is_not}
use Rattle.sw_sat.proofs.solver.handle_conflict.Goals as goal

pub returns-in_default-clause-turns : goal.returns-in_default-clause-turns
returns-in_default-clause-turns c =
    refuted c.args.cnf.now c.args.budget c.args.steps.now.items c.args.trail.now c.in_ok-step.step c.push.new.self.items c.requires.found
    (subst (λ s. IsAccepted c.args.cnf.now.variables (all_clauses c.args.cnf.now s) c.in_ok-step.step) c.as_slice.ensures.value c.in_ok-step.ensures.accepted)
    c.in_ok-step.ensures.empty c.in_ok-push.ensures.items

pub returns-then-eq-clause-turns : goal.returns-then-eq-clause-turns
returns-then-eq-clause-turns c =
    let n : c.len.result ≡ length c.args.steps.now.items = omega (arith, c.len.ensures) in
    spent c.args.cnf.now c.args.budget c.args.steps.now.items c.args.trail.now c.requires.found
    (option_is c.args.budget (length c.args.steps.now.items) (subst (λ k. option_eq eqb c.args.budget (Some k) ≡ true) n (sym c.eq.ensures ∙ c.if-eq.true)))

pub returns-clause-turns : goal.returns-clause-turns
returns-clause-turns c =
    let steps = c.args.steps.now.items in
    let n : c.len.result ≡ length steps = omega (arith, c.len.ensures) in
    learnt_turn c.args.cnf.now c.args.budget steps c.args.trail.now c.learn.new.trail c.in_ok-learnt.learnt c.learn.new.steps.items c.requires.found
    (subst (λ s. IsLearnt c.args.cnf.now.variables (all_clauses c.args.cnf.now s) c.args.trail.now.entries.items c.in_ok-learnt.learnt) c.as_slice-2.ensures.value c.in_ok-learnt.ensures)
    (option_is_not c.args.budget (length steps) (subst (λ k. option_eq eqb c.args.budget (Some k) ≡ false) n (sym c.eq.ensures ∙ c.if-eq.false)))
    c.in_ok-learn.ensures.steps c.in_ok-learn.ensures.numbered c.in_ok-learn.ensures.state c.in_ok-learn.ensures.back
