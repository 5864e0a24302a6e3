use Rattle.std.proofs.Common.{◌≡◌, ◌++◌}
use Rattle.std.specs.List.{enumerate_from}
use Rattle.std.specs.Vec.Iter.{into_iter_items}
use Rattle.sw_claims.proofs.workers.numbered.Given as goal

-- the jobs so far, and then the seats that are left with their numbers
abbrev pub invariant-loop-seat : goal.invariant-loop-seat
invariant-loop-seat g l = l.jobs.items ++ enumerate_from l.number (into_iter_items l.seat-iterator) ≡ enumerate_from 0 l.fn.seats.items
