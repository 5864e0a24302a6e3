use Rattle.std.proofs.Common.{rules, ◌≡◌, ◌≤◌, length, refl, sym, ap, ◌∙◌, subst}
use Rattle.std.specs.List.{AllByRecursion}
use Rattle.sw_core.specs.Machine.{Search}
use Rattle.sw_walk.specs.Parts.{part_at}
use Rattle.sw_hand.specs.Hands.{IsGoodBy}
use Rattle.sw_work.specs.Steps.{searched}
use Rattle.sw_work.proofs.Promised.{promised_of}
use Rattle.sw_work.proofs.Seen.{length_seen}
use Rattle.sw_work.proofs.bench.Desk.settled.Goals as goal

pub returns-clause-promised : goal.returns-clause-promised
returns-clause-promised g c =
    let task = c.args.self.now.task.now in
    let m : Search = searched g.B.Walk.template task in
    let b = c.args.bench.now in
    let h = b.hand in
    let under : c.in-Ok.under ≡ length b.entries.items = search rules in
    let long : length b.formulas ≡ length b.entries.items = ap length c.requires.stands.fits.are ∙ length_seen m b.entries.items in
    λ since le.
    promised_of m task.worker c.args.before since task.pool.now b.formulas h.mine.shown.items h.kept h.tokens.items h.used.items
    (record { part = c.args.part; worker = task.worker; under = c.in-Ok.under; by = c.in_ok-used_places.field-0 }) refl (under ∙ sym long) (subst (λ n. since ≤ n) (sym under) le) c.in_ok-used_places.ensures c.requires.stands.fits.holds.held
    (subst (λ qs. AllByRecursion (IsGoodBy m b.formulas h.kept h.used.items) (part_at qs c.args.part)) c.requires.can.can.are_parts (c.requires.good refl))
