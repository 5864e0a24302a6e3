use Rattle.sw_instances.specs.Instances.{clauses_from}
use Rattle.sw_instances.proofs.Numbered.{well_formed}
use Rattle.sw_instances.proofs.laws.ground_is_well_formed.Goals as goal

pub returns : goal.returns
returns c set u is g h = well_formed h.names (clauses_from set u 0 is) g.cnf.variables g.cnf.clauses h.variables h.clauses
