use Rattle.std.proofs.Common.{◌∙◌, sym, ap, List, ℕ}
use Rattle.sw_universe.specs.Sizes.{capped}
use Rattle.sw_universe.specs.Counting.{count_in, instances_in}
use Rattle.sw_instances.proofs.Counting.{all_length}
use Rattle.sw_instances.proofs.instances.count_all.Goals as goal

pub returns : goal.returns
returns c =
    let set = c.args.set.now in
    let u = c.args.universe.now in
    c.count_instances.ensures ∙ ap (λ (ns : List ℕ). capped (instances_in (count_in ns) set)) (c.as_slice.ensures ∙ c.in_ok-counts.ensures) ∙ ap capped (sym (all_length u set))
