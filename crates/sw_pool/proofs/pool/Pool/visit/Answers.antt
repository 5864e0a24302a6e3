use Rattle.std.proofs.Common.{sym, subst, refl}
use Rattle.sw_filter.specs.Filters.{IsAdmitted}
use Rattle.sw_pool.specs.Refreshes.{refused, found}
use Rattle.sw_pool.proofs.Visiting.{shows, marks}
use Rattle.sw_pool.proofs.pool.Pool.visit.Goals as goal

pub returns-clause-visits : goal.returns-clause-visits
returns-clause-visits g c =
    let more = c.in_ok-add.ensures.added in
    found record { pushed = c.in-Some.pushed } more.0 (shows _ _ _ _ _ _ c.in-Some.ensures.0 c.at.ensures c.in-Some-admit.ensures more.2)
    (marks _ _ _ _ _ c.is_read.ensures c.if-is_read.false c.in-Some.ensures.1 c.in_ok-note.ensures.read c.note.ensures.others) more.1 c.in_ok-push.ensures.items

pub returns-in_default-admit-clause-visits : goal.returns-in_default-admit-clause-visits
returns-in_default-admit-clause-visits g c =
    refused record { pushed = c.in-Some.pushed } c.in-Some.ensures.0 (λ a. c.in_default-admit.ensures (subst (IsAdmitted c.args.protocol.now) (sym c.at.ensures) a))
    (marks _ _ _ _ _ c.is_read.ensures c.if-is_read.false c.in-Some.ensures.1 c.in_ok-note.ensures.read c.note.ensures.others) refl refl
