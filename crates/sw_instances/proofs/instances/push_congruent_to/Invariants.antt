use Rattle.std.proofs.Common.{◌≡◌, ◌++◌, map}
use Rattle.std.specs.List.{range_with_len}
use Rattle.sw_truth.specs.declared.instances.Instance.TheVariants.{Congruent}
use Rattle.sw_instances.proofs.instances.push_congruent_to.Given as goal

abbrev pub invariant-loop-u : goal.invariant-loop-u
invariant-loop-u l = l.all ≡ l.initial.all ++ map (Congruent l.fn.symbol l.fn.place l.terms) (range_with_len 0 l.u)
