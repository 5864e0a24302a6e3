use Rattle.sw_verdict.specs.Judgement.{AreCleared}
use Rattle.sw_verdict.proofs.judging.Asking.steps.Given as goal

abbrev pub invariant-loop-transition : goal.invariant-loop-transition
invariant-loop-transition l = AreCleared l.self.protocol.now l.self.list.now l.transition
