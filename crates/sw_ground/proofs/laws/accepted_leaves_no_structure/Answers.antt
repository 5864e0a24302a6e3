use Rattle.std.proofs.Common.{refl}
use Rattle.sw_skolem.specs.Skolem.{skolem_of}
use Rattle.sw_ground.specs.Verdict.{universe}
use Rattle.sw_ground.proofs.laws.accepted_leaves_no_structure.Goals as goal

pub returns : goal.returns
returns c q r good a s h =
    let set = skolem_of q in
    let more = c.skolem_expands.ensures q s good h in
    c.unsatisfiable_leaves_no_model.ensures set (universe set) r.instances a.ground (c.skolem_is_well_formed.ensures q good).signature refl a.instances a.made
    (c.empty_step_refutes.ensures a.ground.cnf.variables a.ground.cnf.clauses r.steps a.steps a.empty) more.0 more.2
