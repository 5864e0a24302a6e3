use Rattle.std.proofs.Common.{map}
use Rattle.std.specs.List.{flat_map, range_with_len}
use Rattle.sw_truth.specs.declared.instances.Instance.TheVariants.{Transitive}
use Rattle.sw_instances.proofs.Listing.{more_numbers}
use Rattle.sw_instances.proofs.instances.push_transitive.Goals as goal

pub loop-t-preserved : goal.loop-t-preserved
loop-t-preserved c = more_numbers (λ t. flat_map (λ u. map (Transitive c.args.sort t u) (range_with_len 0 c.args.n)) (range_with_len 0 c.args.n)) c.loop-t.t c.args.all.now c.loop-t.all c.push_transitive_with.new.all c.in_ok-push_transitive_with.ensures c.loop-t.invariant
