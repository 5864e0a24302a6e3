use Rattle.std.proofs.Common.{◌≡◌, ◌++◌, ◌∷◌, [], ◌+◌, ◌<◌, ℕ, List, Some, length, map, take, slice_get, arith, sym, ap, ◌∙◌, subst}
use Rattle.std.specs.List.{AllByRecursion}
use Rattle.std.proofs.lemmas.List.{length-append, map-append}
use Rattle.sw_lists.proofs.Each.{each-push}
use Rattle.sw_logic.specs.declared.syntax.Formula.{Formula}
use Rattle.sw_claims.specs.declared.rule.ClaimView.{ClaimView}
use Rattle.sw_claims.specs.ClaimsAnswers.{DrawsNumber, MeetsEnd, SeesReason}
use Rattle.sw_claims.specs.ClaimsRule.{opened}
use Rattle.sw_claims.specs.ClaimsSteps.{looked}
use Rattle.sw_core.specs.declared.record.Settled.{Settled}
use Rattle.sw_core.specs.Machine.{Search, parts_in}
use Rattle.sw_walk.specs.Parts.{part_at}
use Rattle.sw_work.specs.Works.{Settles, seen_formulas}
use Rattle.sw_work.specs.Steps.{FailsRound, IsPromised, Leads, searched, seen_classes}
use Rattle.sw_work.proofs.Alone.{fails_round, leads_part}
use Rattle.sw_work.proofs.Begins.{prefix_le}
use Rattle.sw_work.proofs.Draws.{all_drawn, drawn_number, first_number, has_drawn, has_stopped, never_stopped, number_is}
use Rattle.sw_work.proofs.Promised.{each_promised}
use Rattle.sw_work.proofs.Rows.{part_found, passed, take_whole}
use Rattle.sw_work.proofs.Seen.{gained_more, seen_append}
use Rattle.sw_work.proofs.bench.Desk.draw_parts.Goals as goal

pub settle_part-requires-clause-part : goal.settle_part-requires-clause-part
settle_part-requires-clause-part g c =
    let task = c.args.self.now.task.now in
    let m : Search = searched g.B.Walk.template task in
    let o = c.args.claim_seat.now.view in
    let cl = c.loop.claim_seat.view in
    let d = c.draw.new.seat.view in
    let v = c.args.seat.now.view in
    let u = c.loop.seat.view in
    let inv = c.loop.invariant in
    let drawn : List ℕ = c.loop.progress.drawn in
    let n = c.in-Number.part in
    let draws : DrawsNumber (looked cl) n d = c.in-Number.ensures.draws.1 in
    let ps : List (List (List ℕ)) = g.B.Walk.part_lists task.space.now in
    let lt : n < cl.parts = draws.below in
    let below : n < length ps = omega (arith, lt, inv.parts, c.requires.parts) in
    below

pub returns-in_err-settled-in-Number-clause-gained : goal.returns-in_err-settled-in-Number-clause-gained
returns-in_err-settled-in-Number-clause-gained g c =
    let task = c.args.self.now.task.now in
    let m : Search = searched g.B.Walk.template task in
    let o = c.args.claim_seat.now.view in
    let cl = c.loop.claim_seat.view in
    let d = c.draw.new.seat.view in
    let v = c.args.seat.now.view in
    let u = c.loop.seat.view in
    let inv = c.loop.invariant in
    let drawn : List ℕ = c.loop.progress.drawn in
    let w = c.settle_part.new.seat.view in
    let gained = gained_more m task.worker v u w inv.gained c.settle_part.ensures.gained in
    gained

pub returns-in_err-push-in-Number-clause-gained : goal.returns-in_err-push-in-Number-clause-gained
returns-in_err-push-in-Number-clause-gained g c =
    let task = c.args.self.now.task.now in
    let m : Search = searched g.B.Walk.template task in
    let o = c.args.claim_seat.now.view in
    let cl = c.loop.claim_seat.view in
    let d = c.draw.new.seat.view in
    let v = c.args.seat.now.view in
    let u = c.loop.seat.view in
    let inv = c.loop.invariant in
    let drawn : List ℕ = c.loop.progress.drawn in
    let w = c.settle_part.new.seat.view in
    let gained = gained_more m task.worker v u w inv.gained c.settle_part.ensures.gained in
    gained

pub returns-in_err-push-in-Number-2-clause-gained : goal.returns-in_err-push-in-Number-2-clause-gained
returns-in_err-push-in-Number-2-clause-gained g c =
    let task = c.args.self.now.task.now in
    let m : Search = searched g.B.Walk.template task in
    let o = c.args.claim_seat.now.view in
    let cl = c.loop.claim_seat.view in
    let d = c.draw.new.seat.view in
    let v = c.args.seat.now.view in
    let u = c.loop.seat.view in
    let inv = c.loop.invariant in
    let drawn : List ℕ = c.loop.progress.drawn in
    let w = c.settle_part.new.seat.view in
    let gained = gained_more m task.worker v u w inv.gained c.settle_part.ensures.gained in
    gained

pub returns-in_err-settled-in-Number-clause-cause : goal.returns-in_err-settled-in-Number-clause-cause
returns-in_err-settled-in-Number-clause-cause g c =
    let task = c.args.self.now.task.now in
    let m : Search = searched g.B.Walk.template task in
    let o = c.args.claim_seat.now.view in
    let cl = c.loop.claim_seat.view in
    let d = c.draw.new.seat.view in
    let v = c.args.seat.now.view in
    let u = c.loop.seat.view in
    let inv = c.loop.invariant in
    let drawn : List ℕ = c.loop.progress.drawn in
    let n = c.in-Number.part in
    let draws : DrawsNumber (looked cl) n d = c.in-Number.ensures.draws.1 in
    let ps : List (List (List ℕ)) = g.B.Walk.part_lists task.space.now in
    let lt : n < cl.parts = draws.below in
    let below : n < length ps = omega (arith, lt, inv.parts, c.requires.parts) in
    let w = c.settle_part.new.seat.view in
    let gained = gained_more m task.worker v u w inv.gained c.settle_part.ensures.gained in
    let part : List (List ℕ) = part_at ps n in
    let at : slice_get (parts_in m) n ≡ Some part = ap (λ (qs : List (List (List ℕ))). slice_get qs n) (sym c.requires.can.can.are_parts) ∙ part_found ps n below in
    let leads : o ≡ opened (length (parts_in m)) 0 → Leads m (Settles m.protocol m.template (take n (parts_in m))) v u =
    λ only. subst (λ (k : ℕ). Leads m (Settles m.protocol m.template (take k (parts_in m))) v u) (sym (number_is o cl d (length (parts_in m)) n drawn only draws inv.drawn (inv.only only))) (inv.leads only) in
    passed (FailsRound m c.args.self.now.budget o v w) c.in_err-settled-in-Number.field-0.0 c.from_residual.result c.from_residual.ensures.1
    (fails_round m c.args.self.now.budget n part o v u w c.in_err-settled-in-Number.field-0.0 at leads c.in_err-settled-in-Number.ensures.cause)

pub returns-in-AllDrawn-clause-drew : goal.returns-in-AllDrawn-clause-drew
returns-in-AllDrawn-clause-drew g c =
    let task = c.args.self.now.task.now in
    let m : Search = searched g.B.Walk.template task in
    let o = c.args.claim_seat.now.view in
    let cl = c.loop.claim_seat.view in
    let d = c.draw.new.seat.view in
    let v = c.args.seat.now.view in
    let u = c.loop.seat.view in
    let inv = c.loop.invariant in
    let drawn : List ℕ = c.loop.progress.drawn in
    let ends : MeetsEnd (looked cl) d = c.in-AllDrawn.ensures.draws.1 in
    record {
      drew = has_drawn o cl d drawn ends inv.drawn inv.wrote inv.parts inv.first inv.out;
      in_order = inv.in_order;
      promised = inv.promised;
      leads = λ only lone.
          let here = inv.leads only lone in
          (here.0, subst (λ (qs : List (List (List ℕ))). Settles m.protocol m.template qs (seen_classes v) (seen_classes u)) (take_whole (parts_in m) (length drawn) (all_drawn o cl d (length (parts_in m)) drawn only ends inv.drawn inv.parts (inv.only only))) here.1);
    }

pub returns-in-Stopped-clause-drew : goal.returns-in-Stopped-clause-drew
returns-in-Stopped-clause-drew g c =
    let task = c.args.self.now.task.now in
    let m : Search = searched g.B.Walk.template task in
    let o = c.args.claim_seat.now.view in
    let cl = c.loop.claim_seat.view in
    let d = c.draw.new.seat.view in
    let v = c.args.seat.now.view in
    let u = c.loop.seat.view in
    let inv = c.loop.invariant in
    let drawn : List ℕ = c.loop.progress.drawn in
    let r = c.in-Stopped.reason in
    let sees : SeesReason (looked cl) r d = c.in-Stopped.ensures.draws in
    (has_stopped o cl d r sees inv.wrote, λ only. never_stopped cl d r sees (inv.only only))

pub loop-preserved : goal.loop-preserved
loop-preserved g c =
    let task = c.args.self.now.task.now in
    let m : Search = searched g.B.Walk.template task in
    let o = c.args.claim_seat.now.view in
    let cl = c.loop.claim_seat.view in
    let d = c.draw.new.seat.view in
    let v = c.args.seat.now.view in
    let u = c.loop.seat.view in
    let inv = c.loop.invariant in
    let drawn : List ℕ = c.loop.progress.drawn in
    let n = c.in-Number.part in
    let draws : DrawsNumber (looked cl) n d = c.in-Number.ensures.draws.1 in
    let ps : List (List (List ℕ)) = g.B.Walk.part_lists task.space.now in
    let lt : n < cl.parts = draws.below in
    let below : n < length ps = omega (arith, lt, inv.parts, c.requires.parts) in
    let w = c.settle_part.new.seat.view in
    let gained = gained_more m task.worker v u w inv.gained c.settle_part.ensures.gained in
    let part : List (List ℕ) = part_at ps n in
    let at : slice_get (parts_in m) n ≡ Some part = ap (λ (qs : List (List (List ℕ))). slice_get qs n) (sym c.requires.can.can.are_parts) ∙ part_found ps n below in
    let leads : o ≡ opened (length (parts_in m)) 0 → Leads m (Settles m.protocol m.template (take n (parts_in m))) v u =
    λ only. subst (λ (k : ℕ). Leads m (Settles m.protocol m.template (take k (parts_in m))) v u) (sym (number_is o cl d (length (parts_in m)) n drawn only draws inv.drawn (inv.only only))) (inv.leads only) in
    let ens = c.in_ok-settled-in-Number.ensures in
    let x : Settled = c.in_ok-settled-in-Number.settled in
    let more : c.push.new.self ≡ drawn ++ n ∷ [] = c.in_ok-push-in-Number.ensures.ok in
    let settled : c.push-in-Number.new.self ≡ c.loop.progress.settled ++ x ∷ [] = c.in_ok-push-in-Number-2.ensures.ok in
    let begins = c.settle_part.ensures.gained.begins in
    let formulas : c.settle_part.new.bench.formulas ≡ c.loop.bench.formulas ++ seen_formulas m begins.0 =
    ens.stands.fits.are ∙ (ap (seen_formulas m) (sym begins.1) ∙ (seen_append m u.seen begins.0 ∙ ap (λ (fs : List Formula). fs ++ seen_formulas m begins.0) (sym inv.stands.fits.are))) in
    let since = length v.seen in
    let promise : Settled → Type 0 = IsPromised m task.worker c.args.before since c.settle_part.new.bench.formulas c.settle_part.new.bench.hand.kept in
    record {
      claims = c.draw.ensures.object ∙ inv.claims;
      parts = ap (λ (y : ClaimView). y.parts) draws.gained ∙ inv.parts;
      wrote = ap (λ (y : ClaimView). y.wrote) draws.gained ∙ inv.wrote;
      first = ap (λ (y : ClaimView). y.first) draws.gained ∙ inv.first;
      out = ap (λ (y : ClaimView). y.out) draws.gained ∙ inv.out;
      drawn = drawn_number cl d n o.drawn drawn draws inv.drawn ∙ ap (λ (l : List ℕ). o.drawn ++ l) (sym more);
      in_order = ap (λ (l : List Settled). map (λ (y : Settled). y.part) l) settled ∙ (map-append (λ (y : Settled). y.part) c.loop.progress.settled (x ∷ [])
          ∙ (ap (λ (l : List ℕ). l ++ x.part ∷ []) inv.in_order ∙ (ap (λ (k : ℕ). drawn ++ k ∷ []) ens.part ∙ sym more)));
      promised = subst (AllByRecursion promise) (sym settled)
          (each-push promise c.loop.progress.settled x
          (each_promised m task.worker c.args.before since c.loop.bench.formulas c.settle_part.new.bench.formulas (seen_formulas m begins.0) c.loop.bench.hand.kept c.settle_part.new.bench.hand.kept ens.kept.0 c.loop.progress.settled formulas ens.kept.1 inv.promised)
          (ens.promised since (prefix_le v.seen u.seen inv.gained.begins)));
      object = c.settle_part.ensures.object ∙ inv.object;
      gained = gained;
      stands = ens.stands;
      only = λ only. first_number cl d n draws (inv.only only);
      leads = λ only.
          let count : n ≡ length drawn = number_is o cl d (length (parts_in m)) n drawn only draws inv.drawn (inv.only only) in
          let size : n + 1 ≡ length c.push.new.self = ap (λ (k : ℕ). k + 1) count ∙ (sym (length-append drawn (n ∷ [])) ∙ ap (λ (l : List ℕ). length l) (sym more)) in
          subst (λ (k : ℕ). Leads m (Settles m.protocol m.template (take k (parts_in m))) v w) size (leads_part m v u w n part at (leads only) ens.leads);
    }
