use Rattle.std.proofs.Common.{◌≡◌, ◌++◌, ◌∙◌, ℕ, List, map, ap, rules}
use Rattle.sw_truth.specs.declared.instances.Instance.TheVariants.{Of}
use Rattle.sw_instances.specs.AllInstances.{piece_instances, choices}
use Rattle.sw_instances.proofs.Listing.{more_enumerated}
use Rattle.sw_instances.proofs.instances.push_pieces.Goals as goal

pub loop-k-preserved : goal.loop-k-preserved
loop-k-preserved c =
    let u = c.args.universe.now in
    let pieces = c.args.pieces.now in
    let k = c.loop-k.k in
    let p = c.index-pieces-k.result in
    let number_is : c.in-Ok.number ≡ k = search rules in
    let tuples_is : c.as_slice-in-loop-k.result.now ≡ choices u p.vars = c.as_slice-in-loop-k.ensures ∙ c.in_ok-tuples.ensures ∙ ap (choices u) c.as_slice.ensures in
    more_enumerated (piece_instances u) pieces k p c.args.all.now c.loop-k.all c.push_piece.new.all c.loop-k-test.true c.index-pieces-k.is
    (c.in_ok-push_piece.ensures ∙ ap (λ (ts : List (List ℕ)). c.loop-k.all ++ map (Of c.in-Ok.number) ts) tuples_is ∙ ap (λ (n : ℕ). c.loop-k.all ++ map (Of n) (choices u p.vars)) number_is) c.loop-k.invariant
