use Rattle.std.proofs.Common.{◌<◌, None, length, arith}
use Rattle.sw_sat.specs.declared.trail.Entry.{Entry}
use Rattle.sw_sat.specs.Trail.{all_clauses, negative}
use Rattle.sw_sat.proofs.Growth.{room_left, state_push}
use Rattle.sw_sat.proofs.Quiet.{ready_push}
use Rattle.sw_sat.proofs.Turning.{decision_follows}
use Rattle.sw_sat.proofs.solver.decide.Goals as goal

pub assign-requires-clause-room : goal.assign-requires-clause-room
assign-requires-clause-room c =
    let v = c.args.cnf.now.variables in
    let clauses = all_clauses c.args.cnf.now c.args.steps.now in
    let entries = c.args.trail.now.entries.items in
    let e : Entry = record { lit = negative c.in-Some.variable; reason = None } in
    let h : length entries < v = room_left v clauses entries e c.requires.state.founded (decision_follows v clauses entries c.in-Some.variable c.in-Some.ensures c.requires.fixpoint) in
    omega (arith, c.requires.state.room)

pub returns-in-Some-clause-state : goal.returns-in-Some-clause-state
returns-in-Some-clause-state c =
    let v = c.args.cnf.now.variables in
    let clauses = all_clauses c.args.cnf.now c.args.steps.now in
    let entries = c.args.trail.now.entries.items in
    let e : Entry = record { lit = negative c.in-Some.variable; reason = None } in
    state_push v clauses c.args.trail.now c.assign.new.self e c.requires.state (decision_follows v clauses entries c.in-Some.variable c.in-Some.ensures c.requires.fixpoint)
    c.assign.ensures.entries c.assign.ensures.agrees c.assign.ensures.size c.assign.ensures.room

pub returns-in-Some-clause-ready : goal.returns-in-Some-clause-ready
returns-in-Some-clause-ready c =
    ready_push (all_clauses c.args.cnf.now c.args.steps.now) c.args.trail.now.entries.items c.assign.new.self.entries.items (record { lit = negative c.in-Some.variable; reason = None }) c.requires.fixpoint c.assign.ensures.entries
