use Rattle.std.proofs.Common.{◌≡◌, All, ℕ, ◌<◌, ◌+◌, ◌∙◌, arith, ap, length, rules, slice_index_or, sym, subst}
use Rattle.sw_filter.specs.declared.filter.Mode.TheVariants.{Breadth}
use Rattle.sw_hand.specs.Hands.{search_of}
use Rattle.sw_breadth.specs.declared.sharing.Shared.{Shared}
use Rattle.sw_work.specs.Works.{CanSearch}
use Rattle.sw_breadth.specs.Joins.{AreNew, IsReport}
use Rattle.sw_breadth.proofs.Joins.{Place, places_new, place_at, place_seen, reports_of}
use Rattle.sw_breadth.proofs.working.Round.together.Goals as goal

pub side_by_side-requires-clause-new : goal.side_by_side-requires-clause-new
side_by_side-requires-clause-new g c κs within =
    let s = c.args.self.now in
    let x = s.task.now.space.now in
    let n = length (g.B.Walk.part_lists x) in
    let h : All (λ (y : Place). CanSearch s.task.now.protocol.now (g.B.Walk.template x) (g.B.Walk.part_lists x) (g.B.Candidates.has x) (g.B.Candidates.formula_of x) y.2.now.figures.budget × AreNew y.2.now n y.0.log.view.seen y.0) c.in_ok-places.places.items = λ k d below.
    let is = places_new s.shared.now c.args.first.now.claim.view.parts n c.args.first.now.log.view.seen s.task.now.pool.now c.in_ok-places.places.items c.requires.first.parts_are c.in_ok-places.ensures.new k d below in
    let place = slice_index_or c.in_ok-places.places.items k d in (
      subst (λ (z : Shared). CanSearch s.task.now.protocol.now (g.B.Walk.template x) (g.B.Walk.part_lists x) (g.B.Candidates.has x) (g.B.Candidates.formula_of x) z.figures.budget) (sym is.shared_is) c.requires.can,
      subst (λ (z : Shared). AreNew z n place.0.log.view.seen place.0) (sym is.shared_is) is.new,
    ) in
    h

pub gather-requires-clause-reports : goal.gather-requires-clause-reports
gather-requires-clause-reports g c κs within =
    let s = c.args.self.now in
    let t = g.B.Walk.template s.task.now.space.now in
    let p = s.task.now.protocol.now in
    let m = search_of p t Breadth s.task.now.workers in
    let pool = s.task.now.pool.now in
    let parts = c.args.first.now.claim.view.parts in
    let seen = c.args.first.now.log.view.seen in
    let late = c.split_all.new.first.log.view.seen in
    let reports = c.in_ok-reports.reports.items in
    let many = c.in_ok-reports.ensures.len in
    let f = s.shared.now.figures in
    reports_of m f.budget pool late f.before s.shared.now 0 reports (λ i d lt.
    let a = c.in_ok-reports.ensures.each i d (omega arith) in
    let is = place_at s.shared.now parts seen pool c.in_ok-places.places.items i a.seat (omega arith) (a.seat_is a.seat) c.in_ok-places.ensures.new in
    let same : a.seat.0.log.view.seen ≡ late = place_seen s.shared.now parts seen pool a.seat.1.now a.seat.2.now a.seat.0 is ∙ sym c.in_ok-places.ensures.first.seen_are in
    let number : i ≡ 0 + i = omega arith in
    subst (λ n. IsReport m f.budget pool s.shared.now f.before late n (slice_index_or reports i d)) number
    (subst (λ l. IsReport m f.budget pool s.shared.now f.before l i (slice_index_or reports i d)) same
    (subst (λ q. IsReport m f.budget q s.shared.now f.before a.seat.0.log.view.seen i (slice_index_or reports i d)) is.pool_is
    (subst (λ n. IsReport (search_of p t Breadth n) f.budget a.seat.1.now s.shared.now f.before a.seat.0.log.view.seen i (slice_index_or reports i d)) c.requires.workers
    (subst (λ (z : Shared). IsReport (search_of p t Breadth z.figures.workers) z.figures.budget a.seat.1.now z z.figures.before a.seat.0.log.view.seen i (slice_index_or reports i d)) is.shared_is a.call)))))
