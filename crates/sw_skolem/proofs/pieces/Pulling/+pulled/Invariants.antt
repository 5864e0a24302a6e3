use Rattle.sw_skolem.proofs.PieceSteps.{ArePulledTo}
use Rattle.sw_skolem.proofs.pieces.Pulling.+pulled.Given as goal

abbrev pub invariant-pulled_all-loop-part : goal.invariant-pulled_all-loop-part
invariant-pulled_all-loop-part l = ArePulledTo l.parts l.self.terms l.self.first l.initial.vars l.part-index l.formulas l.vars
