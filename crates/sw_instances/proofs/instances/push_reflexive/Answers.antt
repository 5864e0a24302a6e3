use Rattle.sw_truth.specs.declared.instances.Instance.TheVariants.{Reflexive}
use Rattle.sw_instances.proofs.Listing.{more_mapped}
use Rattle.sw_instances.proofs.instances.push_reflexive.Goals as goal

pub loop-t-preserved : goal.loop-t-preserved
loop-t-preserved c = more_mapped (Reflexive c.args.sort) c.loop-t.t c.args.all.now c.loop-t.all c.push.new.self (c.in_ok-push.ensures.ok) c.loop-t.invariant
