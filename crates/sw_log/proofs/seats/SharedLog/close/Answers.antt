use Rattle.std.proofs.Common.{ap, sym, subst}
use Rattle.sw_log.specs.LogSteps.{IsAlone}
use Rattle.sw_log.specs.Seats.{SeatValue}
use Rattle.sw_log.specs.declared.rule.LogView.{LogView}
use Rattle.sw_log.proofs.LogKeeps.{Ends, closes}
use Rattle.sw_log.proofs.seats.SharedLog.close.Goals as goal

known : (c : goal.After-free) → Ends c.args.seat.view c.take-list.result.items
known c = let final = c.close_with-closed.ensures.values.2 in let view = ap (λ (s : SeatValue). s.view) c.seat.view_is in let idle = c.seat.invariant.idle in
    subst (λ (v : LogView). Ends v c.take-list.result.items) view (closes final.0 _ c.seat.inside.seat.me.0 _ _ final.1.0 final.1.1 final.4 c.take-list.ensures.value idle.live idle.free (subst IsAlone (sym view) c.requires.alone))

pub returns-clause-list : goal.returns-clause-list
returns-clause-list c = (known c).list

pub returns-clause-placed : goal.returns-clause-placed
returns-clause-placed c = (known c).placed

pub returns-clause-each : goal.returns-clause-each
returns-clause-each c = (known c).each
