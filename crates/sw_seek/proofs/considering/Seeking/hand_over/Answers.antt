use Rattle.sw_seek.specs.Steps.{searched}
use Rattle.sw_seek.proofs.Settled.{handed}
use Rattle.sw_seek.proofs.considering.Seeking.hand_over.Goals as goal

pub returns-clause-handed : goal.returns-clause-handed
returns-clause-handed g c =
    let s = c.args.self.now in
    let hand = c.args.hand in
    handed (searched g.B.Walk.template s) s.task.now.pool.now s.task.now.worker s.entries.now hand.mine.shown.items hand.used.items _ c.requires.holds.held
    c.requires.holds.mine.admitted
    c.requires.settled.in_order c.requires.settled.promised
