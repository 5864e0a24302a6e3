use Rattle.std.proofs.Common.{◌∙◌, ap, ℕ, List}
use Rattle.std.specs.List.{sum_by, range_with_len}
use Rattle.sw_universe.specs.Sizes.{capped}
use Rattle.sw_universe.specs.Counting.{count_in, instances_in}
use Rattle.sw_universe.proofs.Sized.{size_is}
use Rattle.sw_universe.proofs.sizes.sized.Goals as goal

pub returns : goal.returns
returns c =
    let set = c.args.set.now in
    let n = c.args.sorts in
    let t = c.total-terms.ensures ∙ ap (λ (cs : List ℕ). capped (sum_by (count_in cs) (range_with_len 0 n))) c.as_slice.ensures in
    let i = c.count_instances-instances.ensures ∙ ap (λ (cs : List ℕ). capped (instances_in (count_in cs) set)) c.as_slice-2.ensures in
    size_is set n c.in_ok-counts.counts c.total-terms.result c.count_instances-instances.result c.requires.count (c.in_ok-counts.ensures {u = tt}) t i
