use Rattle.std.proofs.Common.{◌≡◌, map, slice_get}
use Rattle.std.specs.List.{range_with_len}
use Rattle.sw_logic.specs.Truth.{value_in}
use Rattle.sw_renaming.specs.Renamed.{constant_of}
use Rattle.sw_queries.proofs.splitting.arguments.Given as goal

abbrev pub invariant-loop-param : goal.invariant-loop-param
invariant-loop-param l = l.values ≡ map (λ n. value_in (slice_get l.structure.tables (constant_of l.renaming.protocol.now l.renaming.transition.now n)) 0) (range_with_len 0 l.param)
