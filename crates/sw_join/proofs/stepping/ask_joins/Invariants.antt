use Rattle.sw_join.specs.Joining.{AreRefuted}
use Rattle.sw_join.proofs.stepping.ask_joins.Given as goal

abbrev pub invariant-loop-transition : goal.invariant-loop-transition
invariant-loop-transition l = AreRefuted l.asking.protocol.now l.asking.list.now l.asking.formula.now l.asking.budget l.transition l.refutations
