use Rattle.std.proofs.Common.{rules, refl}
use Rattle.sw_seek.specs.Steps.{searched}
use Rattle.sw_seek.proofs.Settled.{settled_now}
use Rattle.sw_seek.proofs.considering.Seeking.settle.Goals as goal

pub returns-clause-promised : goal.returns-clause-promised
returns-clause-promised g c =
    let s = c.args.self.now in
    let hand = c.args.hand.now in
    settled_now (searched g.B.Walk.template s) s.task.now.pool.now s.task.now.worker s.entries.now hand.mine.shown.items hand.tokens.items hand.kept
    hand.used.items _ c.requires.holds.held c.requires.good
    refl (search rules) c.in_ok-used_places.ensures
