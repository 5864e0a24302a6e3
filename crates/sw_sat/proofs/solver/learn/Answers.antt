use Rattle.std.proofs.Common.{◌≡◌, ◌<◌, ◌+◌, ◌∙◌, ◌++◌, ◌∷◌, [], Some, refl, sym, ap, subst, length, take, arith}
use Rattle.sw_sat.specs.declared.trail.Entry.{Entry}
use Rattle.sw_sat.specs.Occurring.{lists_of, HasAdded, IsIndex}
use Rattle.sw_sat.specs.Trail.{all_clauses, IsReady, IsState, IsTrail, MayFollow}
use Rattle.sw_sat.proofs.Growth.{room_left, state_push}
use Rattle.sw_sat.proofs.Occurring.{index_push}
use Rattle.sw_sat.proofs.Quiet.{ready_learnt}
use Rattle.sw_sat.proofs.StepLists.{all_clauses_push, length-all_clauses}
use Rattle.sw_sat.proofs.Turning.{plain_state, kept_trail, asserting_follows}
use Rattle.sw_sat.proofs.solver.learn.Goals as goal

pub backjump-requires-clause-plain : goal.backjump-requires-clause-plain
backjump-requires-clause-plain c = plain_state c.args.cnf.now.variables (all_clauses c.args.cnf.now c.args.steps.now.items) c.args.trail.now c.requires.state

pub assign-requires-clause-room : goal.assign-requires-clause-room
assign-requires-clause-room c =
    let v = c.args.cnf.now.variables in
    let clauses = all_clauses c.args.cnf.now c.args.steps.now.items in
    let learnt = c.args.learnt in
    let old = c.args.trail.now.entries.items in
    let h : length (take learnt.keep old) < v = room_left v (clauses ++ learnt.step.clause ∷ []) (take learnt.keep old) (record { lit = learnt.asserting; reason = Some (length clauses) })
    (kept_trail v clauses old learnt c.requires.state.founded c.requires.learnt) (asserting_follows v clauses old learnt c.requires.state.founded c.requires.learnt (length clauses) refl) in
    omega (arith, ap length c.backjump.ensures.entries, c.backjump.ensures.room, c.requires.state.room)

pub returns-clause-state : goal.returns-clause-state
returns-clause-state c =
    let v = c.args.cnf.now.variables in
    let steps = c.args.steps.now.items in
    let clauses = all_clauses c.args.cnf.now steps in
    let learnt = c.args.learnt in
    let old = c.args.trail.now.entries.items in
    let more = clauses ++ learnt.step.clause ∷ [] in
    let n = c.len.result + c.len-2.result in
    let last : n ≡ length clauses = omega (arith, length-all_clauses c.args.cnf.now steps, c.len.ensures, c.len-2.ensures) in
    let e : Entry = record { lit = learnt.asserting; reason = Some n } in
    let kept : IsState v more c.backjump.new.self = record {
      founded = subst (IsTrail v more) (sym c.backjump.ensures.entries) (kept_trail v clauses old learnt c.requires.state.founded c.requires.learnt);
      agrees = c.backjump.ensures.agrees;
      size = c.backjump.ensures.size ∙ c.requires.state.size;
      room = omega (arith, c.backjump.ensures.room, c.requires.state.room);
    } in
    subst (λ cs. IsState v cs c.assign.new.self) (sym (all_clauses_push c.args.cnf.now steps learnt.step) ∙ ap (all_clauses c.args.cnf.now) (sym c.in_ok-push.ensures.items))
    (state_push v more c.backjump.new.self c.assign.new.self e kept
    (subst (λ front. MayFollow v more front e) (sym c.backjump.ensures.entries) (asserting_follows v clauses old learnt c.requires.state.founded c.requires.learnt n last))
    c.assign.ensures.entries c.assign.ensures.agrees c.assign.ensures.size c.assign.ensures.room)

pub returns-clause-index : goal.returns-clause-index
returns-clause-index c =
    let steps = c.args.steps.now.items in
    let clauses = all_clauses c.args.cnf.now steps in
    let clause = c.args.learnt.step.clause in
    let old = lists_of c.args.occurrences.now in
    let new = lists_of c.add.new.self in
    let last : c.len.result + c.len-2.result ≡ length clauses = omega (arith, length-all_clauses c.args.cnf.now steps, c.len.ensures, c.len-2.ensures) in
    subst (λ cs. IsIndex c.args.cnf.now.variables cs new) (sym (all_clauses_push c.args.cnf.now steps c.args.learnt.step) ∙ ap (all_clauses c.args.cnf.now) (sym c.in_ok-push.ensures.items))
    (index_push c.args.cnf.now.variables clauses old new clause c.requires.index (subst (λ n. HasAdded old clause.lits n new) last c.in_ok-add.ensures))

pub returns-clause-ready : goal.returns-clause-ready
returns-clause-ready c =
    let steps = c.args.steps.now.items in
    let clauses = all_clauses c.args.cnf.now steps in
    let learnt = c.args.learnt in
    let front = take learnt.keep c.args.trail.now.entries.items in
    let new = c.assign.new.self.entries.items in
    let e : Entry = record { lit = learnt.asserting; reason = Some (c.len.result + c.len-2.result) } in
    let cut = c.requires.learnt.cut in
    let is : new ≡ front ++ e ∷ [] = c.assign.ensures.entries ∙ ap (λ es. es ++ e ∷ []) c.backjump.ensures.entries in
    subst (λ cs. IsReady cs new) (sym (all_clauses_push c.args.cnf.now steps learnt.step) ∙ ap (all_clauses c.args.cnf.now) (sym c.in_ok-push.ensures.items))
    (ready_learnt clauses learnt.step.clause front new e ((c.requires.state.founded.each learnt.keep cut.entry cut.is).decided cut.decided) is c.requires.learnt.unit.among)
