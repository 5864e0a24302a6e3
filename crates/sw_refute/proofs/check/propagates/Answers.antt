use Rattle.std.proofs.Common.{◌↔◌, ◌<◌, ◌+◌, ◌++◌, ◌∷◌, [], List, get_or, drop, sym, ◌∙◌, subst}
use Rattle.std.proofs.lemmas.List.Elements.{All-contains}
use Rattle.sw_refute.specs.declared.clauses.Lit.{Lit}
use Rattle.sw_refute.specs.declared.clauses.Clause.{Clause}
use Rattle.sw_refute.specs.Satisfaction.{IsOver, variable}
use Rattle.sw_refute.specs.Propagation.{Propagates, clauses_of}
use Rattle.sw_lists.proofs.Members.{get_contains}
use Rattle.sw_refute.proofs.Propagating.{runs_out, stops, goes_on, ends, no_clause, neither, at_conflict, at_unit}
use Rattle.sw_refute.proofs.check.propagates.Goals as goal

pub returns-in_default-clause-conflict : goal.returns-in_default-clause-conflict
returns-in_default-clause-conflict c =
    let clauses : List Clause = c.args.cnf.now.clauses ++ clauses_of c.args.earlier.now in
    let hints = c.args.hints.now in
    let i = c.loop-i.i in
    stops clauses c.loop-i.trail.lits.items c.args.trail.now.lits.items hints i c.loop-i.invariant.rest c.loop-i-test.true
    (no_clause clauses c.loop-i.trail.lits.items (get_or hints i 0) (drop (i + 1) hints) (sym c.in_default.ensures))

pub status-requires-clause-over : goal.status-requires-clause-over
status-requires-clause-over c =
    let clauses : List Clause = c.args.cnf.now.clauses ++ clauses_of c.args.earlier.now in
    subst (λ v. IsOver v c.in-Some.clause.now) (sym c.loop-i.invariant.variables)
    (All-contains (IsOver c.args.trail.now.variables) clauses c.in-Some.clause.now c.requires.over (get_contains clauses (get_or c.args.hints.now c.loop-i.i 0) c.in-Some.clause.now (sym c.in-Some.ensures)))

pub returns-in-Conflicting-clause-conflict : goal.returns-in-Conflicting-clause-conflict
returns-in-Conflicting-clause-conflict c =
    let clauses : List Clause = c.args.cnf.now.clauses ++ clauses_of c.args.earlier.now in
    let hints = c.args.hints.now in
    let i = c.loop-i.i in
    ends clauses c.loop-i.trail.lits.items c.args.trail.now.lits.items hints i c.loop-i.invariant.rest c.loop-i-test.true
    (at_conflict clauses c.loop-i.trail.lits.items (get_or hints i 0) (drop (i + 1) hints) c.in-Some.clause.now (sym c.in-Some.ensures) c.in-Conflicting.ensures)

pub assign-requires-clause-over : goal.assign-requires-clause-over
assign-requires-clause-over c =
    let clauses : List Clause = c.args.cnf.now.clauses ++ clauses_of c.args.earlier.now in
    let over : IsOver c.args.trail.now.variables c.in-Some.clause.now =
    All-contains (IsOver c.args.trail.now.variables) clauses c.in-Some.clause.now c.requires.over (get_contains clauses (get_or c.args.hints.now c.loop-i.i 0) c.in-Some.clause.now (sym c.in-Some.ensures)) in
    subst (λ v. variable c.in-Unit.lit < v) (sym c.loop-i.invariant.variables)
    (All-contains (λ (l : Lit). variable l < c.args.trail.now.variables) c.in-Some.clause.now.lits c.in-Unit.lit over c.in-Unit.ensures.among)

pub returns-in-Neither-clause-conflict : goal.returns-in-Neither-clause-conflict
returns-in-Neither-clause-conflict c =
    let clauses : List Clause = c.args.cnf.now.clauses ++ clauses_of c.args.earlier.now in
    let hints = c.args.hints.now in
    let i = c.loop-i.i in
    stops clauses c.loop-i.trail.lits.items c.args.trail.now.lits.items hints i c.loop-i.invariant.rest c.loop-i-test.true
    (neither clauses c.loop-i.trail.lits.items (get_or hints i 0) (drop (i + 1) hints) c.in-Some.clause.now (sym c.in-Some.ensures) c.in-Neither.ensures.0 c.in-Neither.ensures.1)

pub loop-i-preserved : goal.loop-i-preserved
loop-i-preserved c =
    let clauses : List Clause = c.args.cnf.now.clauses ++ clauses_of c.args.earlier.now in
    let hints = c.args.hints.now in
    let i = c.loop-i.i in
    let known = c.loop-i.trail.lits.items in
    let more : List Lit = known ++ c.in-Unit.lit ∷ [] in
    let step = goes_on clauses known c.args.trail.now.lits.items hints i c.loop-i.invariant.rest c.loop-i-test.true more
    (at_unit clauses known (get_or hints i 0) (drop (i + 1) hints) c.in-Some.clause.now (sym c.in-Some.ensures) c.in-Unit.lit c.in-Unit.ensures) in
    record {
      trail = c.in_ok-assign-in-Unit.ensures.trail;
      variables = c.assign.ensures.variables ∙ c.loop-i.invariant.variables;
      rest = subst (λ (ls : List Lit). Propagates clauses ls (drop (i + 1) hints) ↔ Propagates clauses c.args.trail.now.lits.items hints) (sym c.in_ok-assign-in-Unit.ensures.lits) step;
    }

pub returns-clause-conflict : goal.returns-clause-conflict
returns-clause-conflict c =
    let clauses : List Clause = c.args.cnf.now.clauses ++ clauses_of c.args.earlier.now in
    runs_out clauses c.loop-i.trail.lits.items c.args.trail.now.lits.items c.args.hints.now c.loop-i.i c.loop-i.invariant.rest c.loop-i-test.false
