use Rattle.std.proofs.Common.{◌≡◌, map, take}
use Rattle.sw_work.proofs.working.own_marks.Given as goal

abbrev pub invariant-loop-filter : goal.invariant-loop-filter
invariant-loop-filter l = l.own ≡ map (λ e. e.own) (take l.filter-index l.shown)
