use Rattle.std.proofs.Common.{◌≡◌, ◌+◌, slice_index_or, rules, arith, sym, subst}
use mir.Syntax.{named}
use Rattle.std.proofs.Crossing.{sync as global_sync}
use Rattle.sw_claims.proofs.seats.Claims.TheSendSync as claims
use Rattle.sw_finish.specs.Joins.{IsReport, searched}
use Rattle.sw_finish.proofs.Crossing.{finder_sync}
use Rattle.sw_finish.proofs.Joins.{reports_of}
use Rattle.sw_finish.proofs.finding.Finder.together.Goals as goal

pub fork-requires-sync-J : goal.fork-requires-sync-J
fork-requires-sync-J g c κs within =
    let space = κs.1.1.1.1.1.1.1.0 in
    let entries = κs.1.1.1.1.1.1.1.1.0 in
    let finder = finder_sync (record { mir = named 7; lft = space }) (record { mir = named 8; lft = entries }) _ _ c.type_bounds.sync-G c.type_bounds.sync-B in
    record {
      shared = λ x b o κ. (
        (
          (λ q. tt, finder.shared x.0.now x.0.ref_ptr.0 x.0.ref_ptr.1 κs.1.1.1.1.1.1.0),
          (
            (λ q. tt, c.type_bounds.sync-H.shared x.1.now x.1.ref_ptr.0 x.1.ref_ptr.1 κs.1.1.1.1.1.1.1.1.1.0),
            (
              (λ q. tt, global_sync.shared x.2.now x.2.ref_ptr.0 x.2.ref_ptr.1 κs.1.1.1.1.1.1.1.1.1.1.0),
              ((λ q. tt, claims.the_sync.shared x.3.now x.3.ref_ptr.0 x.3.ref_ptr.1 κs.1.1.1.1.1.1.1.1.1.1.1.0), tt),
            ),
          ),
        ),
        λ q. tt,
      );
    }

pub gather-requires-clause-reports : goal.gather-requires-clause-reports
gather-requires-clause-reports g c κs within =
    let s = c.args.self.now in
    let m = searched g.B.Walk.template s in
    reports_of m s.entries.now s.budget s.task.now.pool.now c.args.claims.now 0 c.in_ok-reports.reports.items
    (λ i d lt.
    let len = c.in_ok-reports.ensures.len in
    let seats = c.in_ok-seats.seats.ok.0 in
    let reports = c.in_ok-reports.reports.ok.0 in
    let x = c.in_ok-reports.ensures.each i d (omega (arith, lt, len, seats, reports)) in
    let here : 0 + i ≡ i = omega arith in
    subst (λ n. IsReport m s.entries.now s.budget s.task.now.pool.now c.args.claims.now n (slice_index_or c.in_ok-reports.reports.items i d)) (sym here)
    (search (rules, x.call)))
