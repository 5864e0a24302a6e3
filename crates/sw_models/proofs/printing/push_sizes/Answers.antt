use Rattle.std.proofs.Common.{length, rules}
use Rattle.std.proofs.lemmas.Slice.Zip.{zip_end}
use Rattle.sw_models.proofs.Printed.{sizes_written}
use Rattle.sw_models.proofs.printing.push_sizes.Goals as goal

pub returns : goal.returns
returns c =
    sizes_written _ _ c.args.sorts.now c.args.sizes.now (length c.loop-sort.yielded)
    (zip_end c.args.sorts.now c.args.sizes.now c.loop-sort.yielded c.into_iter-sort-iterator.result c.loop-sort.sort-iterator c.next.new.self c.next.result (search rules) (search rules) c.loop-sort.yielded_by c.in-None.is c.next.ensures.steps)
    c.loop-sort.invariant
