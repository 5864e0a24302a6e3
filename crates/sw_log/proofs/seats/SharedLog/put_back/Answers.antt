use Rattle.std.proofs.Common.{sym, ap, ◌∙◌}
use Rattle.sw_log.specs.declared.rule.LogView.{LogView}
use Rattle.sw_log.proofs.seats.SharedLog.put_back.Goals as goal

pub free-requires-clause-list : goal.free-requires-clause-list
free-requires-clause-list c = let has = c.put.ensures.list in (has.0, has.1, has.2 ∙ (c.requires.list ∙ sym (ap (λ (v : LogView). v.seen) c.put.ensures.view)))
