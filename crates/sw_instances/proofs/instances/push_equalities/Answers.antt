use Rattle.sw_instances.specs.AllInstances.{equality_instances}
use Rattle.sw_instances.proofs.Listing.{more_numbers}
use Rattle.sw_instances.proofs.instances.push_equalities.Goals as goal

pub loop-sort-preserved : goal.loop-sort-preserved
loop-sort-preserved c = more_numbers (equality_instances c.args.universe.now) c.loop-sort.sort c.args.all.now c.loop-sort.all c.push_equality.new.all c.in_ok-push_equality.ensures c.loop-sort.invariant
