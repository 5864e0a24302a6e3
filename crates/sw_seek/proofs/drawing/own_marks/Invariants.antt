use Rattle.std.proofs.Common.{◌≡◌, map, take}
use Rattle.sw_filter.specs.declared.view.Shown.{Shown}
use Rattle.sw_seek.proofs.drawing.own_marks.Given as goal

abbrev pub invariant-loop-each : goal.invariant-loop-each
invariant-loop-each l = l.own ≡ map (λ (e : Shown). e.own) (take l.each-index l.shown)
