use Rattle.std.proofs.Common.{◌≡◌, List, length, ap, ◌∙◌, subst}
use Rattle.sw_logic.specs.declared.syntax.Formula.{Formula}
use Rattle.sw_template.specs.Bodies.{Class}
use Rattle.sw_log.specs.declared.entry.Entry.{Entry}
use Rattle.sw_core.specs.Machine.{Search, formula_in}
use Rattle.sw_core.specs.Founded.{Gains}
use Rattle.sw_work.specs.Steps.{searched}
use Rattle.sw_work.proofs.Asked.{class_at}
use Rattle.sw_work.proofs.Seen.{gained_last}
use Rattle.sw_work.proofs.bench.Desk.append.Goals as goal

pub returns-in_err-push-in-Done-clause-gained : goal.returns-in_err-push-in-Done-clause-gained
returns-in_err-push-in-Done-clause-gained g c =
    let task = c.args.self.now.task.now in
    let m : Search = searched g.B.Walk.template task in
    let v = c.args.seat.now.view in
    let body : Class = c.args.body.now in
    let e : Entry = c.in_ok-entry.entry in
    let is : e ≡ record { body = body; worker = task.worker; under = length v.seen } = c.in_ok-entry.ensures ∙ ap (λ (l : List Entry). record { body = body; worker = task.worker; under = length l }) c.requires.stands.listed in
    gained_last m task.worker v c.append.new.seat.view e body (class_at g.B.Walk.template g.B.Walk.part_lists g.B.Candidates.has g.B.Candidates.formula_of task c.args.self.now.budget c.requires.can body c.requires.class) is
    (subst (λ (fs : List Formula). Gains m fs (formula_in m body.cubes)) c.requires.stands.fits.are c.requires.gains) c.in-Done.ensures.appends

pub returns-in_ok-push-in-Done-clause-gained : goal.returns-in_ok-push-in-Done-clause-gained
returns-in_ok-push-in-Done-clause-gained g c =
    let task = c.args.self.now.task.now in
    let m : Search = searched g.B.Walk.template task in
    let v = c.args.seat.now.view in
    let body : Class = c.args.body.now in
    let e : Entry = c.in_ok-entry.entry in
    let is : e ≡ record { body = body; worker = task.worker; under = length v.seen } = c.in_ok-entry.ensures ∙ ap (λ (l : List Entry). record { body = body; worker = task.worker; under = length l }) c.requires.stands.listed in
    gained_last m task.worker v c.append.new.seat.view e body (class_at g.B.Walk.template g.B.Walk.part_lists g.B.Candidates.has g.B.Candidates.formula_of task c.args.self.now.budget c.requires.can body c.requires.class) is
    (subst (λ (fs : List Formula). Gains m fs (formula_in m body.cubes)) c.requires.stands.fits.are c.requires.gains) c.in-Done.ensures.appends
