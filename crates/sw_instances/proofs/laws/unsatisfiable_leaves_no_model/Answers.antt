use Rattle.sw_logic.specs.Truth.{world}
use Rattle.sw_instances.specs.Instances.{clauses_from}
use Rattle.sw_instances.specs.Values.{name_holds}
use Rattle.sw_instances.proofs.Holding.{all_instances_hold}
use Rattle.sw_instances.proofs.Numbered.{assigned, clauses_hold}
use Rattle.sw_instances.proofs.Universes.{have_values}
use Rattle.sw_instances.proofs.laws.unsatisfiable_leaves_no_model.Goals as goal

pub returns : goal.returns
returns c set u is g good listed instances ground none s model =
    let v = name_holds (world set.signature s s) set u is in
    let values = have_values c.values_are_in_range.ensures c.universe_is_sorted.ensures set.signature u good listed in
    none (assigned v ground.names)
    (clauses_hold v ground.names (clauses_from set u 0 is) g.cnf.clauses ground.clauses (all_instances_hold set u is s values model instances))
