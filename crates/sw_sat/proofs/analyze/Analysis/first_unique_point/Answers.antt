use Rattle.std.proofs.Common.{◌∙◌}
use Rattle.sw_sat.specs.Trail.{all_clauses}
use Rattle.sw_sat.proofs.Founded.{numbers_below}
use Rattle.sw_sat.proofs.analyze.Analysis.first_unique_point.Goals as goal

pub is_unique-requires-clause-size : goal.is_unique-requires-clause-size
is_unique-requires-clause-size c = numbers_below c.args.cnf.now.variables (all_clauses c.args.cnf.now c.args.steps.now) c.args.trail.now.entries.items c.requires.trail _
    (c.loop-self.invariant.size ∙ c.requires.size)
