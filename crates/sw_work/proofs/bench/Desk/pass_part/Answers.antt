use Rattle.std.proofs.Common.{◌≡◌, ℕ, List, Some, slice_get, sym, ap, ◌∙◌, subst}
use Rattle.std.specs.Prelude.{Option, IfSome}
use Rattle.std.proofs.lemmas.Bool.{false≢true}
use Rattle.sw_lists.proofs.Members.{get_contains}
use Rattle.sw_meaning.specs.Plain.{Passage}
use Rattle.sw_template.specs.Bodies.{Class}
use Rattle.sw_core.specs.Machine.{Search}
use Rattle.sw_walk.specs.Parts.{part_at}
use Rattle.sw_work.specs.Works.{seen_formulas}
use Rattle.sw_work.specs.Steps.{Fails, Moves, searched}
use Rattle.sw_work.proofs.Alone.{fails_within, leads_more, moves_longer, moves_same, passed_more}
use Rattle.sw_work.proofs.Asked.{cubes_in, keeps_on}
use Rattle.sw_work.proofs.Rows.{in_all, passed}
use Rattle.sw_work.proofs.Seen.{gained_more}
use Rattle.sw_work.proofs.bench.Desk.pass_part.Goals as goal
use Rattle.sw_work.proofs.bench.Desk.pass_part.Goals.{then-branch, else-branch}

pub consider-requires-clause-class : goal.consider-requires-clause-class
consider-requires-clause-class g c =
    let task = c.args.self.now.task.now in
    let m : Search = searched g.B.Walk.template task in
    let ps : List (List (List ℕ)) = g.B.Walk.part_lists task.space.now in
    let part : List (List ℕ) = part_at ps c.args.part in
    let i = c.loop-at.at in
    let body : Class = c.in-Some.body in
    let v = c.args.seat.now.view in
    let u = c.loop-at.seat.view in
    let inv = c.loop-at.invariant in
    let at : slice_get part i ≡ Some body.cubes = sym (sym (ap cubes_in c.in-Some.is) ∙ inv.next) in
    record { single = subst (λ (o : Option Class). IfSome o (λ b. b.template ≡ 0)) c.in-Some.is inv.single; among = in_all ps c.args.part i body.cubes c.requires.part at }

pub returns-in_err-consider-clause-gained : goal.returns-in_err-consider-clause-gained
returns-in_err-consider-clause-gained g c =
    let task = c.args.self.now.task.now in
    let m : Search = searched g.B.Walk.template task in
    let ps : List (List (List ℕ)) = g.B.Walk.part_lists task.space.now in
    let part : List (List ℕ) = part_at ps c.args.part in
    let i = c.loop-at.at in
    let body : Class = c.in-Some.body in
    let v = c.args.seat.now.view in
    let u = c.loop-at.seat.view in
    let inv = c.loop-at.invariant in
    let at : slice_get part i ≡ Some body.cubes = sym (sym (ap cubes_in c.in-Some.is) ∙ inv.next) in
    gained_more m task.worker v u c.consider.new.seat.view inv.gained c.consider.ensures.gained

pub returns-in_err-consider-clause-cause : goal.returns-in_err-consider-clause-cause
returns-in_err-consider-clause-cause g c =
    let task = c.args.self.now.task.now in
    let m : Search = searched g.B.Walk.template task in
    let ps : List (List (List ℕ)) = g.B.Walk.part_lists task.space.now in
    let part : List (List ℕ) = part_at ps c.args.part in
    let i = c.loop-at.at in
    let body : Class = c.in-Some.body in
    let v = c.args.seat.now.view in
    let u = c.loop-at.seat.view in
    let inv = c.loop-at.invariant in
    let at : slice_get part i ≡ Some body.cubes = sym (sym (ap cubes_in c.in-Some.is) ∙ inv.next) in
    let w = c.consider.new.seat.view in
    passed (Fails m c.args.self.now.budget (Passage m.protocol m.template part) v w) c.in_err-consider.field-0.0 c.from_residual-in_err-consider.result c.from_residual-in_err-consider.ensures.1
    (fails_within m c.args.self.now.budget part i body.cubes v u w c.in_err-consider.field-0.0 at inv.leads c.in_err-consider.ensures.cause)

pub next_of-next-requires-clause-is : goal.next_of-next-requires-clause-is
next_of-next-requires-clause-is g c =
    let task = c.args.self.now.task.now in
    let m : Search = searched g.B.Walk.template task in
    let ps : List (List (List ℕ)) = g.B.Walk.part_lists task.space.now in
    let part : List (List ℕ) = part_at ps c.args.part in
    let i = c.loop-at.at in
    let body : Class = c.in-Some.body in
    let v = c.args.seat.now.view in
    let u = c.loop-at.seat.view in
    let inv = c.loop-at.invariant in
    let at : slice_get part i ≡ Some body.cubes = sym (sym (ap cubes_in c.in-Some.is) ∙ inv.next) in
    get_contains part i body.cubes at

pub loop-at-preserved : goal.loop-at-preserved
loop-at-preserved g c =
    let task = c.args.self.now.task.now in
    let m : Search = searched g.B.Walk.template task in
    let ps : List (List (List ℕ)) = g.B.Walk.part_lists task.space.now in
    let part : List (List ℕ) = part_at ps c.args.part in
    let i = c.loop-at.at in
    let body : Class = c.in-Some.body in
    let v = c.args.seat.now.view in
    let u = c.loop-at.seat.view in
    let inv = c.loop-at.invariant in
    let at : slice_get part i ≡ Some body.cubes = sym (sym (ap cubes_in c.in-Some.is) ∙ inv.next) in
    let w = c.consider.new.seat.view in
    let ens = c.in_ok-consider.ensures in
    record {
      next = c.next_of-next.ensures.cubes i at;
      single = c.next_of-next.ensures.template;
      object = c.consider.ensures.object ∙ inv.object;
      gained = gained_more m task.worker v u w inv.gained c.consider.ensures.gained;
      stands = ens.stands;
      kept = keeps_on c.args.bench.now.hand.kept c.loop-at.bench.hand.kept c.consider.new.bench.hand.kept inv.kept ens.kept;
      moves = elim c.if-branch.branch [
        | then-branch x ↦ subst (Moves v w) (sym x.changed-is) (moves_longer v u w c.loop-at.changed inv.moves (ens.moves.longer x.if-branch.true))
        | else-branch x ↦ subst (Moves v w) (sym x.changed-is) (moves_same v u w c.loop-at.changed inv.moves (ens.moves.stays x.if-branch.false))
      ];
      good = λ e. elim c.if-branch.branch [
        | then-branch x ↦ absurd (false≢true (sym e ∙ x.changed-is))
        | else-branch x ↦
            let same : c.consider.new.bench.formulas ≡ c.loop-at.bench.formulas = ens.stands.fits.are ∙ (ap (seen_formulas m) (ens.moves.stays x.if-branch.false) ∙ sym inv.stands.fits.are) in
            passed_more m c.loop-at.bench c.consider.new.bench part i body.cubes at same (ens.good x.if-branch.false) (inv.good (sym x.changed-is ∙ e))
      ];
      leads = leads_more m v u w part i body.cubes at inv.leads ens.leads;
    }
