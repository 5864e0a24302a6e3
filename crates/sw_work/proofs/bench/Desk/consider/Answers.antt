use Rattle.std.proofs.Common.{sym, ap, ◌∙◌, subst}
use Rattle.std.proofs.lemmas.Bool.{false≢true}
use Rattle.sw_template.specs.Bodies.{Class}
use Rattle.sw_log.specs.declared.rule.LogView.{LogView}
use Rattle.sw_core.specs.Machine.{Search}
use Rattle.sw_work.specs.Steps.{IsTried, searched}
use Rattle.sw_work.proofs.Alone.{alone_same, leads_added, leads_left, moves_longer}
use Rattle.sw_work.proofs.Asked.{class_at, keeps_on}
use Rattle.sw_work.proofs.Seen.{alone_gained, gained_more}
use Rattle.sw_work.proofs.bench.Desk.consider.Goals as goal

pub returns-in_err-attempt-clause-gained : goal.returns-in_err-attempt-clause-gained
returns-in_err-attempt-clause-gained g c =
    let task = c.args.self.now.task.now in
    let m : Search = searched g.B.Walk.template task in
    let body : Class = c.args.body.now in
    let v = c.args.seat.now.view in
    let u = c.loop.seat.view in
    let w = c.attempt.new.seat.view in
    let inv = c.loop.invariant in
    let gained = gained_more m task.worker v u w inv.gained c.attempt.ensures.gained in
    gained

pub returns-in-Good-clause-leads : goal.returns-in-Good-clause-leads
returns-in-Good-clause-leads g c =
    let task = c.args.self.now.task.now in
    let m : Search = searched g.B.Walk.template task in
    let body : Class = c.args.body.now in
    let v = c.args.seat.now.view in
    let u = c.loop.seat.view in
    let w = c.attempt.new.seat.view in
    let inv = c.loop.invariant in
    let gained = gained_more m task.worker v u w inv.gained c.attempt.ensures.gained in
    let told = subst (IsTried m u w c.loop.bench c.attempt.new.bench body) c.in-Good.is c.in_ok-attempt.ensures.tried in
    let new = c.attempt.new.bench in
    λ lone. leads_left m task.worker v w new.formulas new.hand.kept new.hand.used.items body.cubes c.requires.can.breadth gained
    (ap (λ (x : LogView). x.seen) told.0 ∙ alone_same v u c.loop.changed inv.moves inv.behind lone.alone) c.in_ok-attempt.ensures.stands.fits.are told.1.good lone

pub returns-in-Added-clause-gained : goal.returns-in-Added-clause-gained
returns-in-Added-clause-gained g c =
    let task = c.args.self.now.task.now in
    let m : Search = searched g.B.Walk.template task in
    let body : Class = c.args.body.now in
    let v = c.args.seat.now.view in
    let u = c.loop.seat.view in
    let w = c.attempt.new.seat.view in
    let inv = c.loop.invariant in
    let gained = gained_more m task.worker v u w inv.gained c.attempt.ensures.gained in
    gained

pub returns-in-Added-clause-leads : goal.returns-in-Added-clause-leads
returns-in-Added-clause-leads g c =
    let task = c.args.self.now.task.now in
    let m : Search = searched g.B.Walk.template task in
    let body : Class = c.args.body.now in
    let v = c.args.seat.now.view in
    let u = c.loop.seat.view in
    let w = c.attempt.new.seat.view in
    let inv = c.loop.invariant in
    let gained = gained_more m task.worker v u w inv.gained c.attempt.ensures.gained in
    let told = subst (IsTried m u w c.loop.bench c.attempt.new.bench body) c.in-Added.is c.in_ok-attempt.ensures.tried in
    λ lone. leads_added m task.worker v u w body gained (alone_same v u c.loop.changed inv.moves inv.behind lone.alone) (class_at g.B.Walk.template g.B.Walk.part_lists g.B.Candidates.has g.B.Candidates.formula_of task c.args.self.now.budget c.requires.can body c.requires.class) told lone

pub loop-preserved : goal.loop-preserved
loop-preserved g c =
    let task = c.args.self.now.task.now in
    let m : Search = searched g.B.Walk.template task in
    let body : Class = c.args.body.now in
    let v = c.args.seat.now.view in
    let u = c.loop.seat.view in
    let w = c.attempt.new.seat.view in
    let inv = c.loop.invariant in
    let gained = gained_more m task.worker v u w inv.gained c.attempt.ensures.gained in
    let told = subst (IsTried m u w c.loop.bench c.attempt.new.bench body) c.in-Behind.is c.in_ok-attempt.ensures.tried in
    record {
      object = c.attempt.ensures.object ∙ inv.object;
      gained = gained;
      stands = c.in_ok-attempt.ensures.stands;
      kept = keeps_on c.args.bench.now.hand.kept c.loop.bench.hand.kept c.attempt.new.bench.hand.kept inv.kept c.in_ok-attempt.ensures.kept;
      moves = moves_longer v u w c.loop.changed inv.moves told.0;
      same = λ e. absurd (false≢true (sym e));
      behind = λ e alone. told.1 (alone_gained m task.worker v u inv.gained alone);
    }
