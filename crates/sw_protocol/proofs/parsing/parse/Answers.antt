use Rattle.std.proofs.Common.{◌≡◌, Some, None, length, refl, arith, ◌∙◌}
use Rattle.sw_trees.proofs.Answering.{if_ok}
use Rattle.sw_protocol.specs.declared.phases.Phase.{Phase}
use Rattle.sw_protocol.specs.Answers.{IsAnswer}
use Rattle.sw_protocol.proofs.Reading.{at}
use Rattle.sw_protocol.proofs.Answering.{none_read, one_read, answers_past, refused, answered}
use Rattle.sw_protocol.proofs.parsing.parse.Goals.{in-Taken, in-Whole+in_ok-push-in-Whole}
use Rattle.sw_protocol.proofs.parsing.parse.Goals as goal

pub loop-i-init : goal.loop-i-init
loop-i-init c = rw c.new-done.ensures (none_read c.args.text.now c.args.words.now)

pub returns-in-Past : goal.returns-in-Past
returns-in-Past c =
    let past = rw c.in-Past.is at c.in_ok-next.ensures in
    answers_past c.args.text.now c.args.words.now c.loop-i.i _ _ (at c.loop-i.done c.loop-i.phase) c.loop-i-test.true refl c.loop-i.invariant past

pub returns-in-Refused : goal.returns-in-Refused
returns-in-Refused c =
    let none = rw c.in-Refused.is at c.in_ok-next.ensures in
    refused c.args.text.now c.args.words.now c.loop-i.i _ (at c.loop-i.done c.loop-i.phase) c.loop-i-test.true c.loop-i.invariant none.0 none.1

pub loop-i-preserved : goal.loop-i-preserved
loop-i-preserved c = elim c.match-branch-2.branch [
  | in-Taken w ↦
      let a = rw w.in-Taken.is at c.in_ok-next.ensures in
      rw (w.done-is, w.phase-is)
      (one_read c.args.text.now c.args.words.now c.loop-i.i _ _ (at c.loop-i.done c.loop-i.phase) (record { whole = None; phase = w.in-Taken.next; loads = a.0 }) c.loop-i-test.true refl c.loop-i.invariant a.1 a.2)
  | in-Whole+in_ok-push-in-Whole w ↦
      let a = rw w.in-Whole.is at c.in_ok-next.ensures in
      rw (w.done-is ∙ w.in_ok-push-in-Whole.ensures.ok, w.phase-is)
      (one_read c.args.text.now c.args.words.now c.loop-i.i _ _ (at c.loop-i.done c.loop-i.phase) (record { whole = Some w.in-Whole.declaration; phase = Phase.Begin; loads = a.0 }) c.loop-i-test.true refl c.loop-i.invariant a.1 a.2)
]

pub returns : goal.returns
returns c =
    let e : c.loop-i.i ≡ length c.args.words.now = omega arith in
    if_ok _ (IsAnswer c.args.text.now c.args.words.now) c.finish.result c.finish.ensures
    (λ r h. answered c.args.text.now c.args.words.now c.loop-i.done c.loop-i.phase c.loop-i.i r e c.loop-i.invariant h)
