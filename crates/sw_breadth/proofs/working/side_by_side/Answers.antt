use Rattle.std.proofs.Crossing.{sync as global_sync}
use Rattle.sw_pool.proofs.Sharing.{protocol_sync}
use Rattle.std.proofs.Common.{length, sym}
use Rattle.sw_work.specs.Works.{CanSearch}
use Rattle.sw_breadth.specs.Joins.{AreNew}
use Rattle.sw_breadth.proofs.Joins.{Place, new_at}
use Rattle.sw_breadth.proofs.working.side_by_side.Goals as goal

pub fork-requires-after_bounds : goal.fork-requires-after_bounds
fork-requires-after_bounds g c κs within = λ i place below e.
    let x = c.args.space.now in
    let P : Place → Type 0 = λ y. CanSearch c.args.protocol.now (g.B.Walk.template x) (g.B.Walk.part_lists x) (g.B.Candidates.has x) (g.B.Candidates.formula_of x) y.2.now.figures.budget × AreNew y.2.now (length (g.B.Walk.part_lists x)) y.0.log.view.seen y.0 in
    let is = new_at c.args.places.items i place below (sym e) P c.requires.new in
    (is.0, is.1)

pub fork-requires-sync-J : goal.fork-requires-sync-J
fork-requires-sync-J g c κs within =
    record {
      shared = λ x b o κ. (
        (
          (λ q. tt, protocol_sync.shared x.0.now x.0.ref_ptr.0 x.0.ref_ptr.1 κs.1.1.1.1.1.1.1.1.0),
          (
            (λ q. tt, c.type_bounds.sync-B.shared x.1.now x.1.ref_ptr.0 x.1.ref_ptr.1 κs.1.1.1.1.1.1.1.1.1.0),
            (
              (λ q. tt, c.type_bounds.sync-G.shared x.2.now x.2.ref_ptr.0 x.2.ref_ptr.1 κs.1.1.1.1.1.1.1.1.1.1.0),
              (
                (λ q. tt, c.type_bounds.sync-H.shared x.3.now x.3.ref_ptr.0 x.3.ref_ptr.1 κs.1.1.1.1.1.1.1.1.1.1.1.0),
                ((λ q. tt, global_sync.shared x.4.now x.4.ref_ptr.0 x.4.ref_ptr.1 κs.1.1.1.1.1.1.1.1.1.1.1.1.0), tt),
              ),
            ),
          ),
        ),
        λ q. tt,
      );
    }
