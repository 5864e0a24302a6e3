use Rattle.sw_core.specs.Machine.{Search}
use Rattle.sw_work.specs.Steps.{searched}
use Rattle.sw_work.proofs.Handing.{handed_of}
use Rattle.sw_work.proofs.bench.Desk.hand_over.Goals as goal

pub returns-clause-handed : goal.returns-clause-handed
returns-clause-handed g c =
    let task = c.args.self.now.task.now in
    let m : Search = searched g.B.Walk.template task in
    let b = c.args.bench in
    let p = c.args.progress in
    let holds = c.requires.stands.fits.holds in
    λ before since order all.
    handed_of m task.pool.now task.worker before since b.formulas b.hand.mine.shown.items b.hand.used.items
    (record { drawn = p.drawn; kept = b.hand.kept; tokens = b.hand.tokens; own = c.in_ok-own.own; settled = p.settled }) holds.held holds.mine.admitted order all
