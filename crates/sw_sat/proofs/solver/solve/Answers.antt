use Rattle.std.proofs.Common.{subst}
use Rattle.sw_sat.specs.declared.solver.Turn.TheVariants as turn
use Rattle.sw_sat.specs.Progress.{Turns}
use Rattle.sw_sat.specs.Trail.{all_clauses}
use Rattle.sw_sat.proofs.Models.{is_model}
use Rattle.sw_sat.proofs.solver.solve.Goals as goal

pub returns-in-Satisfied : goal.returns-in-Satisfied
returns-in-Satisfied c =
    let cnf = c.args.cnf.now in
    let steps = c.take_turn.new.steps.items in
    let trail = c.take_turn.new.trail in
    let t : Turns cnf c.args.budget c.loop-trail.trail trail steps turn.Satisfied = subst (Turns cnf c.args.budget c.loop-trail.trail trail steps) c.in-Satisfied.is c.in_ok-take_turn.ensures.turns in
    is_model cnf (all_clauses cnf steps) trail.entries.items c.in_ok-model-in-Satisfied.field-0.items t.0.state.founded t.2 c.in_ok-model-in-Satisfied.ensures steps c.requires.well_formed t.1
