use Rattle.sw_truth.specs.declared.instances.Instance.TheVariants.{Transitive}
use Rattle.sw_instances.proofs.Listing.{more_mapped}
use Rattle.sw_instances.proofs.instances.push_transitive_over.Goals as goal

pub loop-v-preserved : goal.loop-v-preserved
loop-v-preserved c = more_mapped (Transitive c.args.sort c.args.t c.args.u) c.loop-v.v c.args.all.now c.loop-v.all c.push.new.self (c.in_ok-push.ensures.ok) c.loop-v.invariant
