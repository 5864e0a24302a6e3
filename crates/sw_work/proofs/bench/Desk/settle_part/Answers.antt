use Rattle.std.proofs.Common.{◌≡◌, ◌≤◌, ℕ, List, length, arith, ap, ◌∙◌}
use Rattle.sw_log.specs.declared.entry.Entry.{Entry}
use Rattle.sw_meaning.specs.Plain.{Passage, Until}
use Rattle.sw_core.specs.Machine.{Search}
use Rattle.sw_walk.specs.Parts.{part_at, classes_of}
use Rattle.sw_work.specs.Works.{bodies_of}
use Rattle.sw_work.specs.Steps.{Classes, Fails, searched, seen_classes}
use Rattle.sw_work.proofs.Alone.{fails_part, moves_away}
use Rattle.sw_work.proofs.Asked.{keeps_on}
use Rattle.sw_work.proofs.Begins.{prefix_le}
use Rattle.sw_work.proofs.Rows.{passage_one, passed, until_goes, until_rests, until_step}
use Rattle.sw_work.proofs.Seen.{gained_more}
use Rattle.sw_work.proofs.bench.Desk.settle_part.Goals as goal

pub returns-in_err-pass_part-clause-gained : goal.returns-in_err-pass_part-clause-gained
returns-in_err-pass_part-clause-gained g c =
    let task = c.args.self.now.task.now in
    let m : Search = searched g.B.Walk.template task in
    let part : List (List ℕ) = part_at (g.B.Walk.part_lists task.space.now) c.args.part in
    let once : Classes → Classes → Type 0 = Passage m.protocol m.template part in
    let v = c.args.seat.now.view in
    let u = c.loop.seat.view in
    let w = c.pass_part.new.seat.view in
    let inv = c.loop.invariant in
    let gained = gained_more m task.worker v u w inv.gained c.pass_part.ensures.gained in
    gained

pub returns-in_err-pass_part-clause-cause : goal.returns-in_err-pass_part-clause-cause
returns-in_err-pass_part-clause-cause g c =
    let task = c.args.self.now.task.now in
    let m : Search = searched g.B.Walk.template task in
    let part : List (List ℕ) = part_at (g.B.Walk.part_lists task.space.now) c.args.part in
    let once : Classes → Classes → Type 0 = Passage m.protocol m.template part in
    let v = c.args.seat.now.view in
    let u = c.loop.seat.view in
    let w = c.pass_part.new.seat.view in
    let inv = c.loop.invariant in
    let gained = gained_more m task.worker v u w inv.gained c.pass_part.ensures.gained in
    passed (Fails m c.args.self.now.budget (Until once) v w) c.in_err-pass_part.field-0.0 c.from_residual-in_err-pass_part.result c.from_residual-in_err-pass_part.ensures.1
    (fails_part m c.args.self.now.budget part v u w c.in_err-pass_part.field-0.0 inv.back c.in_err-pass_part.ensures.cause)

pub returns-then-not-branch-clause-promised : goal.returns-then-not-branch-clause-promised
returns-then-not-branch-clause-promised g c =
    let task = c.args.self.now.task.now in
    let m : Search = searched g.B.Walk.template task in
    let part : List (List ℕ) = part_at (g.B.Walk.part_lists task.space.now) c.args.part in
    let once : Classes → Classes → Type 0 = Passage m.protocol m.template part in
    let v = c.args.seat.now.view in
    let u = c.loop.seat.view in
    let w = c.pass_part.new.seat.view in
    let inv = c.loop.invariant in
    let gained = gained_more m task.worker v u w inv.gained c.pass_part.ensures.gained in
    let le : length v.seen ≤ length w.seen = prefix_le v.seen w.seen gained.begins in
    let same : length c.pass_part.new.bench.entries.items ≡ length w.seen = ap (λ (l : List Entry). length l) c.in_ok-pass_part.ensures.stands.listed in
    λ since lt. c.in_ok-settled.ensures.promised since (omega (arith, le, same, lt))

pub returns-then-not-branch-clause-leads : goal.returns-then-not-branch-clause-leads
returns-then-not-branch-clause-leads g c =
    let task = c.args.self.now.task.now in
    let m : Search = searched g.B.Walk.template task in
    let part : List (List ℕ) = part_at (g.B.Walk.part_lists task.space.now) c.args.part in
    let once : Classes → Classes → Type 0 = Passage m.protocol m.template part in
    let v = c.args.seat.now.view in
    let u = c.loop.seat.view in
    let w = c.pass_part.new.seat.view in
    let inv = c.loop.invariant in
    let gained = gained_more m task.worker v u w inv.gained c.pass_part.ensures.gained in
    let ens = c.in_ok-pass_part.ensures in
    λ lone.
    let then = ens.leads (inv.back lone).0 in
    let same : seen_classes w ≡ seen_classes u = ap (λ (l : List Entry). classes_of (bodies_of l)) (ens.moves.stays c.if-not-branch.true) in
    (then.0, inv.until lone (seen_classes w) (until_rests once (seen_classes u) (seen_classes w) then.1 same))

pub loop-preserved : goal.loop-preserved
loop-preserved g c =
    let task = c.args.self.now.task.now in
    let m : Search = searched g.B.Walk.template task in
    let part : List (List ℕ) = part_at (g.B.Walk.part_lists task.space.now) c.args.part in
    let once : Classes → Classes → Type 0 = Passage m.protocol m.template part in
    let v = c.args.seat.now.view in
    let u = c.loop.seat.view in
    let w = c.pass_part.new.seat.view in
    let inv = c.loop.invariant in
    let gained = gained_more m task.worker v u w inv.gained c.pass_part.ensures.gained in
    let ens = c.in_ok-pass_part.ensures in
    let away = moves_away u w (ens.moves.longer c.if-not-branch.false) in
    record {
      object = c.pass_part.ensures.object ∙ inv.object;
      gained = gained;
      stands = ens.stands;
      kept = keeps_on c.args.bench.now.hand.kept c.loop.bench.hand.kept c.pass_part.new.bench.hand.kept inv.kept ens.kept;
      until = λ lone h until.
          let then = ens.leads (inv.back lone).0 in
          inv.until lone h (until_goes once (seen_classes u) (seen_classes w) h then.1 away until);
      back = λ lone.
          let here = inv.back lone in
          let then = ens.leads here.0 in
          (then.0, λ h until. until_step once (passage_one m.protocol m.template part) then.1 away (here.1 h until));
    }
