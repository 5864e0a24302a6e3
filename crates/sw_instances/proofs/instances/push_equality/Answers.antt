use Rattle.std.proofs.Common.{◌++◌, ◌∙◌, ℕ, map, ap}
use Rattle.std.specs.List.{flat_map, range_with_len}
use Rattle.sw_truth.specs.declared.instances.Instance.TheVariants.{Reflexive, Symmetric, Transitive}
use Rattle.std.proofs.lemmas.Result.{on_ok_weaker}
use Rattle.sw_instances.proofs.Listing.{three}
use Rattle.sw_instances.proofs.instances.push_equality.Goals as goal

pub returns : goal.returns
returns c =
    let sort = c.args.sort in
    let u = c.args.universe.now in
    let made = λ (n : ℕ). map (Reflexive sort) (range_with_len 0 n)
    ++ (flat_map (λ t. map (Symmetric sort t) (range_with_len 0 n)) (range_with_len 0 n)
    ++ flat_map (λ t. flat_map (λ v. map (Transitive sort t v) (range_with_len 0 n)) (range_with_len 0 n)) (range_with_len 0 n)) in
    on_ok_weaker c.push_transitive.result
    (λ e. three c.args.all.now c.push_reflexive.new.all c.push_symmetric.new.all c.push_transitive.new.all _ _ _ c.in_ok-push_reflexive.ensures c.in_ok-push_symmetric.ensures e ∙ ap (λ (n : ℕ). c.args.all.now ++ made n) c.in_ok-n.ensures)
    c.push_transitive.ensures
