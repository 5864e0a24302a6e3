use Rattle.sw_skolem.proofs.FormSteps.{AreFormedTo}
use Rattle.sw_skolem.proofs.existentials.Outer.+forms.Given as goal

abbrev pub invariant-forms-loop-part : goal.invariant-forms-loop-part
invariant-forms-loop-part l = AreFormedTo l.self.base l.parts l.self.terms l.self.sorts l.initial.made l.part-index l.forms l.made
