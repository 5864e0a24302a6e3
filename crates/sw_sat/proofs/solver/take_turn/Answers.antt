use Rattle.std.proofs.Common.{sym, subst, List}
use Rattle.std.proofs.lemmas.Result.{IfOk-weaker}
use Rattle.std.specs.List.{All}
use Rattle.sw_refute.specs.Satisfaction.{IsOver}
use Rattle.sw_sat.specs.declared.trail.Entry.{Entry}
use Rattle.sw_sat.specs.Progress.{Turns}
use Rattle.sw_sat.specs.declared.solver.Turn.TheVariants as turn
use Rattle.sw_sat.specs.Trail.{all_clauses, IsState, IsFixpoint, literals}
use Rattle.sw_refute.proofs.Accepting.{all_over}
use Rattle.sw_sat.proofs.Turning.{grown_search, grown_left, turns_from, decided_turn, unchanged_search}
use Rattle.sw_sat.proofs.solver.take_turn.Goals as goal

pub propagate-requires-clause-over : goal.propagate-requires-clause-over
propagate-requires-clause-over c =
    subst (λ s. All (IsOver c.args.cnf.now.variables) (all_clauses c.args.cnf.now s)) (sym c.as_slice.ensures.value) (all_over c.args.cnf.now.variables c.args.cnf.now.clauses c.args.steps.now.items c.requires.well_formed c.requires.found.accepted)

pub handle_conflict-requires-clause-over : goal.handle_conflict-requires-clause-over
handle_conflict-requires-clause-over c = all_over c.args.cnf.now.variables c.args.cnf.now.clauses c.args.steps.now.items c.requires.well_formed c.requires.found.accepted

pub handle_conflict-requires-clause-found : goal.handle_conflict-requires-clause-found
handle_conflict-requires-clause-found c =
    grown_search c.args.cnf.now c.args.budget c.args.steps.now.items c.args.trail.now c.propagate.new.trail c.requires.found
    (subst (λ s. IsState c.args.cnf.now.variables (all_clauses c.args.cnf.now s) c.propagate.new.trail) c.as_slice.ensures.value c.propagate.ensures.state) c.propagate.ensures.grows

pub returns-in-Some-clause-turns : goal.returns-in-Some-clause-turns
returns-in-Some-clause-turns c =
    let h = grown_left c.args.cnf.now c.args.budget c.args.steps.now.items c.args.trail.now c.propagate.new.trail c.propagate.ensures.grows in
    IfOk-weaker c.handle_conflict.result (Turns c.args.cnf.now c.args.budget c.propagate.new.trail c.handle_conflict.new.trail c.handle_conflict.new.steps.items)
    (Turns c.args.cnf.now c.args.budget c.args.trail.now c.handle_conflict.new.trail c.handle_conflict.new.steps.items)
    (λ t a. turns_from c.args.cnf.now c.args.budget c.handle_conflict.new.steps.items c.args.trail.now c.propagate.new.trail c.handle_conflict.new.trail t h a) c.handle_conflict.ensures.turns

pub returns-then-decide-clause-turns : goal.returns-then-decide-clause-turns
returns-then-decide-clause-turns c =
    let steps = c.args.steps.now.items in
    let state = subst (λ s. IsState c.args.cnf.now.variables (all_clauses c.args.cnf.now s) c.propagate.new.trail) c.as_slice.ensures.value c.propagate.ensures.state in
    let found = grown_search c.args.cnf.now c.args.budget steps c.args.trail.now c.propagate.new.trail c.requires.found state c.propagate.ensures.grows in
    let decided = subst (λ s. IsState c.args.cnf.now.variables (all_clauses c.args.cnf.now s) c.decide.new.trail) c.as_slice-in-None.ensures.value c.decide.ensures.state in
    let h = grown_left c.args.cnf.now c.args.budget steps c.args.trail.now c.propagate.new.trail c.propagate.ensures.grows in
    turns_from c.args.cnf.now c.args.budget steps c.args.trail.now c.propagate.new.trail c.decide.new.trail turn.On h
    (decided_turn c.args.cnf.now c.args.budget steps c.propagate.new.trail c.decide.new.trail found decided c.if-decide.ensures.decided)

pub returns-else-decide-clause-turns : goal.returns-else-decide-clause-turns
returns-else-decide-clause-turns c =
    let steps = c.args.steps.now.items in
    let state = subst (λ s. IsState c.args.cnf.now.variables (all_clauses c.args.cnf.now s) c.propagate.new.trail) c.as_slice.ensures.value c.propagate.ensures.state in
    let found = grown_search c.args.cnf.now c.args.budget steps c.args.trail.now c.propagate.new.trail c.requires.found state c.propagate.ensures.grows in
    let decided = subst (λ s. IsState c.args.cnf.now.variables (all_clauses c.args.cnf.now s) c.decide.new.trail) c.as_slice-in-None.ensures.value c.decide.ensures.state in
    let fixpoint = subst (λ s. IsFixpoint (all_clauses c.args.cnf.now s) (literals c.propagate.new.trail.entries.items)) c.as_slice.ensures.value c.in-None.ensures.ends in
    let same = c.if-decide.ensures.unchanged in (
      unchanged_search c.args.cnf.now c.args.budget steps c.propagate.new.trail c.decide.new.trail found decided same,
      subst (λ (es : List Entry). IsFixpoint (all_clauses c.args.cnf.now steps) (literals es)) (sym same) fixpoint,
      c.if-decide.ensures.decided,
    )
