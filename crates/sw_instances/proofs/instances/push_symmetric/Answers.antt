use Rattle.std.proofs.Common.{map}
use Rattle.std.specs.List.{range_with_len}
use Rattle.sw_truth.specs.declared.instances.Instance.TheVariants.{Symmetric}
use Rattle.sw_instances.proofs.Listing.{more_numbers}
use Rattle.sw_instances.proofs.instances.push_symmetric.Goals as goal

pub loop-t-preserved : goal.loop-t-preserved
loop-t-preserved c = more_numbers (λ t. map (Symmetric c.args.sort t) (range_with_len 0 c.args.n)) c.loop-t.t c.args.all.now c.loop-t.all c.push_symmetric_with.new.all c.in_ok-push_symmetric_with.ensures c.loop-t.invariant
