use Rattle.std.proofs.Common.{List, refl, subst, sym}
use Rattle.sw_logic.specs.declared.syntax.Formula.{Formula}
use Rattle.sw_template.specs.Bodies.{Class}
use Rattle.sw_filter.specs.Filters.{AreNarrow}
use Rattle.sw_core.specs.Machine.{Search}
use Rattle.sw_hand.specs.Hands.{IsGoodBy}
use Rattle.sw_work.specs.declared.considering.Tried.{Tried}
use Rattle.sw_work.specs.Steps.{IsTried, KeepsMore, searched}
use Rattle.sw_work.proofs.Asked.{holds_at, if_ok, keeps_of, keeps_on, tried_on}
use Rattle.sw_work.proofs.bench.Desk.sift_or_examine.Goals as goal

pub sift-requires-clause-narrow : goal.sift-requires-clause-narrow
sift-requires-clause-narrow g c = subst AreNarrow (sym c.as_slice.ensures) c.requires.stands.fits.narrow

pub returns-then-branch-clause-tried : goal.returns-then-branch-clause-tried
returns-then-branch-clause-tried g c =
    let task = c.args.self.now.task.now in
    let m : Search = searched g.B.Walk.template task in
    let body : Class = c.args.body.now in
    let h = c.sift.new.hand in (
      refl,
      record {
        grows = c.in_ok-sift.ensures.grows;
        good = subst (λ (fs : List Formula). IsGoodBy m fs h.kept h.used.items body.cubes) c.as_slice.ensures (c.in_ok-sift.ensures.good c.if-branch.true);
      },
    )

pub examined-requires-clause-stands : goal.examined-requires-clause-stands
examined-requires-clause-stands g c =
    let task = c.args.self.now.task.now in
    let then = c.in_ok-sift.ensures in
    let fits = c.requires.stands.fits in
    record {
      listed = c.requires.stands.listed;
      fits = record {
        are = fits.are;
        narrow = fits.narrow;
        holds = holds_at g.B.Walk.template task c.args.bench.now.formulas c.as_slice.result.now c.sift.new.hand c.as_slice.ensures then.mine then.others then.hand then.found;
      };
      implied = c.requires.stands.implied;
    }

pub returns-clause-kept : goal.returns-clause-kept
returns-clause-kept g c =
    let old = c.args.bench.now.hand in
    let h = c.sift.new.hand in
    let new = c.examined.new.bench.hand in
    if_ok (λ (t : Tried). KeepsMore h.kept new.kept) (λ (t : Tried). KeepsMore old.kept new.kept)
    (λ t k. keeps_on old.kept h.kept new.kept (keeps_of old.kept old.used.items h.kept h.used.items c.in_ok-sift.ensures.grows) k) c.examined.result c.examined.ensures.kept

pub returns-clause-tried : goal.returns-clause-tried
returns-clause-tried g c =
    let task = c.args.self.now.task.now in
    let m : Search = searched g.B.Walk.template task in
    let body : Class = c.args.body.now in
    let v = c.args.seat.now.view in
    let w = c.examined.new.seat.view in
    let old = c.args.bench.now in
    let mid = record old { hand = c.sift.new.hand } in
    let new = c.examined.new.bench in
    if_ok (λ (t : Tried). IsTried m v w mid new body t) (λ (t : Tried). IsTried m v w old new body t)
    (λ t k. tried_on m v w old mid new body t c.in_ok-sift.ensures.grows k) c.examined.result c.examined.ensures.tried
