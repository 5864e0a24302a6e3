use Rattle.std.proofs.Common.{refl, subst, sym}
use Rattle.sw_template.specs.Bodies.{Class}
use Rattle.sw_core.specs.Machine.{Search}
use Rattle.sw_hand.specs.declared.hand.Hand.{Hand}
use Rattle.sw_hand.specs.Hands.{Grows}
use Rattle.sw_work.specs.declared.considering.Tried.{Tried}
use Rattle.sw_work.specs.Steps.{Stands, IsTried, KeepsMore, searched}
use Rattle.sw_work.proofs.Asked.{grows_none, if_ok, tried_on}
use Rattle.sw_work.proofs.bench.Desk.attempt.Goals as goal

pub sift_or_examine-requires-clause-stands : goal.sift_or_examine-requires-clause-stands
sift_or_examine-requires-clause-stands g c =
    subst (Stands g.B.Walk.template c.args.self.now.task.now c.recall.new.bench) c.requires.stands.listed c.in_ok-recall.ensures.stands

pub returns-then-branch-clause-tried : goal.returns-then-branch-clause-tried
returns-then-branch-clause-tried g c = (refl, c.in_ok-recall.ensures.good c.if-branch.true)

pub returns-clause-kept : goal.returns-clause-kept
returns-clause-kept g c =
    let new = c.sift_or_examine.new.bench.hand in
    if_ok (λ (t : Tried). KeepsMore c.recall.new.bench.hand.kept new.kept) (λ (t : Tried). KeepsMore c.args.bench.now.hand.kept new.kept)
    (λ t k. subst (λ (h : Hand g.row.B.Denot). KeepsMore h.kept new.kept) c.in_ok-recall.ensures.hand k) c.sift_or_examine.result c.sift_or_examine.ensures.kept

pub returns-clause-tried : goal.returns-clause-tried
returns-clause-tried g c =
    let task = c.args.self.now.task.now in
    let m : Search = searched g.B.Walk.template task in
    let body : Class = c.args.body.now in
    let v = c.args.seat.now.view in
    let w = c.sift_or_examine.new.seat.view in
    let old = c.args.bench.now in
    let mid = c.recall.new.bench in
    let new = c.sift_or_examine.new.bench in
    let same : Grows old.hand.kept old.hand.used.items mid.hand.kept mid.hand.used.items =
    subst (λ (h : Hand g.row.B.Denot). Grows old.hand.kept old.hand.used.items h.kept h.used.items) (sym c.in_ok-recall.ensures.hand) (grows_none old.hand.kept old.hand.used.items) in
    if_ok (λ (t : Tried). IsTried m v w mid new body t) (λ (t : Tried). IsTried m v w old new body t)
    (λ t k. tried_on m v w old mid new body t same k) c.sift_or_examine.result c.sift_or_examine.ensures.tried
