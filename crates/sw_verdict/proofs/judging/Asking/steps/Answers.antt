use Rattle.std.proofs.Common.{refl, arith}
use Rattle.sw_meaning.specs.Verdict.{Verdict}
use Rattle.sw_verdict.proofs.Safety.{safe_by}
use Rattle.sw_verdict.proofs.Answers.{cleared_push, all_through}
use Rattle.sw_verdict.proofs.judging.Asking.steps.Goals as goal

pub loop-transition-preserved : goal.loop-transition-preserved
loop-transition-preserved c =
    let p = c.args.self.now.protocol.now in
    let g = c.args.self.now.list.now in
    let n = c.loop-transition.transition in
    cleared_push p g n c.loop-transition.invariant (c.in_ok-judged.ensures.kept c.in_default.is)

pub returns-clause-word : goal.returns-clause-word
returns-clause-word c =
    let p = c.args.self.now.protocol.now in
    let g = c.args.self.now.list.now in
    let n = c.loop-transition.transition in
    let all = all_through p g n (omega (arith, c.len-transition-end.ensures, c.loop-transition-test.false)) c.loop-transition.invariant in
    Verdict.safe refl (safe_by p g c.requires.ask.well_formed c.requires.start.none all)

pub returns-clause-cause : goal.returns-clause-cause
returns-clause-cause c =
    let p = c.args.self.now.protocol.now in
    let g = c.args.self.now.list.now in
    let n = c.loop-transition.transition in
    (c.requires.start, all_through p g n (omega (arith, c.len-transition-end.ensures, c.loop-transition-test.false)) c.loop-transition.invariant)
