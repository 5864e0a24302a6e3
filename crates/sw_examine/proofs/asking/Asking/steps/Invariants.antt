use Rattle.sw_examine.specs.Examinations.{AreRefuted}
use Rattle.sw_examine.proofs.asking.Asking.steps.Given as goal

abbrev pub invariant-loop-transition : goal.invariant-loop-transition
invariant-loop-transition l = AreRefuted l.self.protocol.now l.self.list.now l.self.formula.now l.self.budget l.transition l.refutations
