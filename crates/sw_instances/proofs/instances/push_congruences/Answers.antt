use Rattle.std.proofs.Common.{◌≡◌, ◌++◌, ◌∙◌, ℕ, List, ap, rules}
use Rattle.std.specs.List.{flat_map, enumerate_from}
use Rattle.sw_instances.specs.AllInstances.{congruence_instances, choices, congruence_at}
use Rattle.sw_instances.proofs.Listing.{more_enumerated}
use Rattle.sw_instances.proofs.instances.push_congruences.Goals as goal

pub loop-k-preserved : goal.loop-k-preserved
loop-k-preserved c =
    let u = c.args.universe.now in
    let symbols = c.args.symbols.now in
    let k = c.loop-k.k in
    let s = c.index-symbols-k.result in
    let number_is : c.in-Ok.number ≡ k = search rules in
    let tuples_is : c.as_slice-in-loop-k-2.result.now ≡ choices u s.args = c.as_slice-in-loop-k-2.ensures ∙ c.in_ok-tuples.ensures ∙ ap (choices u) c.as_slice.ensures in
    more_enumerated (congruence_instances u) symbols k s c.args.all.now c.loop-k.all c.push_congruence.new.all c.loop-k-test.true c.index-symbols-k.is
    (c.in_ok-push_congruence.ensures ∙ ap (λ (ts : List (List ℕ)). c.loop-k.all ++ flat_map (congruence_at u c.in-Ok.number ts) (enumerate_from 0 c.as_slice-in-loop-k.result.now)) tuples_is
    ∙ ap (λ (n : ℕ). c.loop-k.all ++ flat_map (congruence_at u n (choices u s.args)) (enumerate_from 0 c.as_slice-in-loop-k.result.now)) number_is
    ∙ ap (λ (xs : List ℕ). c.loop-k.all ++ flat_map (congruence_at u k (choices u s.args)) (enumerate_from 0 xs)) c.as_slice-in-loop-k.ensures) c.loop-k.invariant
