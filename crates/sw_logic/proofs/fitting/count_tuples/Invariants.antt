-- What is left of the sorts multiplies the count so far to the count of all.
use Rattle.std.proofs.Common.{◌≡◌, ◌*◌, ◌≤◌, min, drop}
use Rattle.sw_logic.specs.Fits.{tuple_count}
use Rattle.sw_logic.proofs.fitting.count_tuples.Given as goal

abbrev pub invariant-loop-sort : goal.invariant-loop-sort
invariant-loop-sort l =
    (l.count ≤ 340282366920938463463374607431768211455)
    × (min 340282366920938463463374607431768211455 (l.count * tuple_count l.sizes (drop l.sort-index l.sorts))
    ≡ min 340282366920938463463374607431768211455 (tuple_count l.sizes l.sorts))
