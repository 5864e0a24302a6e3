use Rattle.std.proofs.Common.{map}
use Rattle.std.specs.List.{range_with_len}
use Rattle.sw_truth.specs.declared.instances.Instance.TheVariants.{Transitive}
use Rattle.sw_instances.proofs.Listing.{more_numbers}
use Rattle.sw_instances.proofs.instances.push_transitive_with.Goals as goal

pub loop-u-preserved : goal.loop-u-preserved
loop-u-preserved c = more_numbers (λ u. map (Transitive c.args.sort c.args.t u) (range_with_len 0 c.args.n)) c.loop-u.u c.args.all.now c.loop-u.all c.push_transitive_over.new.all c.in_ok-push_transitive_over.ensures c.loop-u.invariant
