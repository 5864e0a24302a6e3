use Rattle.sw_truth.specs.declared.instances.Instance.TheVariants.{Symmetric}
use Rattle.sw_instances.proofs.Listing.{more_mapped}
use Rattle.sw_instances.proofs.instances.push_symmetric_with.Goals as goal

pub loop-u-preserved : goal.loop-u-preserved
loop-u-preserved c = more_mapped (Symmetric c.args.sort c.args.t) c.loop-u.u c.args.all.now c.loop-u.all c.push.new.self (c.in_ok-push.ensures.ok) c.loop-u.invariant
