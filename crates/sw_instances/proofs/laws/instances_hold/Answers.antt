use Rattle.sw_instances.proofs.Holding.{all_instances_hold}
use Rattle.sw_instances.proofs.Universes.{have_values}
use Rattle.sw_instances.proofs.laws.instances_hold.Goals as goal

pub returns : goal.returns
returns c set u is s good listed instances model =
    all_instances_hold set u is s (have_values c.values_are_in_range.ensures c.universe_is_sorted.ensures set.signature u good listed) model instances
