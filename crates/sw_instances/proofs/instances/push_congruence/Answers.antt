use Rattle.std.proofs.Common.{◌≡◌, ◌++◌, ◌∙◌, ℕ, map, ap, get_or, rules}
use Rattle.std.specs.List.{flat_map, range_with_len}
use Rattle.sw_truth.specs.declared.instances.Instance.TheVariants.{Congruent}
use Rattle.sw_instances.specs.AllInstances.{congruence_at}
use Rattle.std.proofs.lemmas.List.{get_or_default}
use Rattle.sw_instances.proofs.Listing.{more_enumerated}
use Rattle.sw_instances.proofs.instances.push_congruence.Goals as goal

pub loop-k-preserved : goal.loop-k-preserved
loop-k-preserved c =
    let u = c.args.universe.now in
    let sorts = c.args.sorts.now in
    let k = c.loop-k.k in
    let sort = get_or sorts k 0 in
    let place_is : c.in-Ok.place ≡ k = search rules in
    more_enumerated (congruence_at u c.args.symbol c.args.tuples.now) sorts k sort c.args.all.now c.loop-k.all c.push_congruent_at.new.all c.loop-k-test.true (get_or_default sorts k 0 sort c.loop-k-test.true)
    (c.in_ok-push_congruent_at.ensures ∙ ap (λ (n : ℕ). c.loop-k.all ++ flat_map (λ ns. map (Congruent c.args.symbol c.in-Ok.place ns) (range_with_len 0 n)) c.args.tuples.now) c.in_ok-n.ensures
    ∙ ap (λ (p : ℕ). c.loop-k.all ++ congruence_at u c.args.symbol c.args.tuples.now (p, sort)) place_is) c.loop-k.invariant
