use Rattle.std.proofs.Common.{[], ◌∷◌, ℕ, List, map}
use Rattle.sw_instances.proofs.Listing.{more_numbers}
use Rattle.sw_instances.proofs.instances.before_each.Goals as goal

pub loop-n-preserved : goal.loop-n-preserved
loop-n-preserved c =
    more_numbers (λ (n : ℕ). map (λ (tuple : List ℕ). n ∷ tuple) c.args.tuples.now) c.loop-n.n [] c.loop-n.longer _ c.in_ok-push_longer.ensures c.loop-n.invariant
