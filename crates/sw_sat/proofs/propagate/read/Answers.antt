use Rattle.std.proofs.Common.{◌≡◌, ◌<◌, ◌∙◌, Some, sym, subst, length, arith}
use Rattle.std.proofs.lemmas.Option.{same_Some}
use Rattle.std.specs.List.{Contains}
use Rattle.sw_refute.specs.declared.clauses.Clause.{Clause}
use Rattle.sw_sat.specs.declared.trail.Entry.{Entry}
use Rattle.sw_sat.specs.Trail.{all_clauses, literals, IsSettled}
use Rattle.sw_sat.proofs.Founded.{over_at}
use Rattle.sw_sat.proofs.Growth.{unit_follows, room_left, state_push}
use Rattle.sw_sat.proofs.Quiet.{unit_push}
use Rattle.sw_sat.proofs.propagate.read.Goals as goal

pub assign-requires-clause-room : goal.assign-requires-clause-room
assign-requires-clause-room c =
    let v = c.args.cnf.now.variables in
    let clauses = all_clauses c.args.cnf.now c.args.steps.now in
    let entries = c.args.trail.now.entries.items in
    let s = c.requires.state in
    let follows = unit_follows v clauses entries c.args.number c.clause_at.result.now c.in-Unit.lit c.clause_at.ensures c.in-Unit.ensures
    (over_at v clauses c.args.number c.clause_at.result.now c.requires.over c.clause_at.ensures) in
    let h : length entries < v = room_left v clauses entries (record { lit = c.in-Unit.lit; reason = Some c.args.number }) s.founded follows in
    omega (arith, s.room)

pub returns-in-Unit-clause-state : goal.returns-in-Unit-clause-state
returns-in-Unit-clause-state c =
    let v = c.args.cnf.now.variables in
    let clauses = all_clauses c.args.cnf.now c.args.steps.now in
    let entries = c.args.trail.now.entries.items in
    let e : Entry = record { lit = c.in-Unit.lit; reason = Some c.args.number } in
    let follows = unit_follows v clauses entries c.args.number c.clause_at.result.now c.in-Unit.lit c.clause_at.ensures c.in-Unit.ensures
    (over_at v clauses c.args.number c.clause_at.result.now c.requires.over c.clause_at.ensures) in
    state_push v clauses c.args.trail.now c.assign.new.self e c.requires.state follows c.assign.ensures.entries c.assign.ensures.agrees c.assign.ensures.size c.assign.ensures.room

pub returns-in-Unit-clause-ends : goal.returns-in-Unit-clause-ends
returns-in-Unit-clause-ends c = λ d is.
    let e : Entry = record { lit = c.in-Unit.lit; reason = Some c.args.number } in
    let same : c.clause_at.result.now ≡ d = same_Some c.clause_at.result.now d (sym c.clause_at.ensures ∙ is) in
    subst (λ es. IsSettled (literals es) d) (sym c.assign.ensures.entries) (unit_push c.args.trail.now.entries.items e d (subst (λ (x : Clause). Contains x.lits c.in-Unit.lit) same c.in-Unit.ensures.among))
