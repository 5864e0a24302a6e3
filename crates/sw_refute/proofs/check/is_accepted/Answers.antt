use Rattle.std.proofs.Common.{◌↔◌, ◌++◌, IsTrue, List, ◌∙◌, ap, map}
use Rattle.std.proofs.lemmas.Result.{IfOk-weaker}
use Rattle.sw_refute.specs.declared.clauses.Clause.{Clause}
use Rattle.sw_refute.specs.Satisfaction.{negation}
use Rattle.sw_refute.specs.Propagation.{Propagates, IsAccepted, clauses_of}
use Rattle.sw_refute.proofs.Accepting.{accepted_by}
use Rattle.sw_refute.proofs.check.is_accepted.Goals as goal

pub returns-clause-accepted : goal.returns-clause-accepted
returns-clause-accepted c =
    let step = c.args.step.now in
    let clauses : List Clause = c.args.cnf.now.clauses ++ clauses_of c.args.earlier.now in
    let known = c.negate_all.new.self.lits.items in
    let hints = c.as_slice-2.result.now in
    IfOk-weaker c.propagates.result (λ yes. IsTrue yes ↔ Propagates clauses known hints) (λ yes. IsTrue yes ↔ IsAccepted c.args.cnf.now.variables clauses step)
    (accepted_by c.args.cnf.now.variables clauses step known hints (c.is_over.ensures.0 c.if-not-is_over.false) (c.is_consistent.ensures.0 c.if-not-is_consistent.false)
    (c.in_ok-negate_all.ensures.lits ∙ ap (map negation) c.as_slice.ensures) c.as_slice-2.ensures)
    c.propagates.ensures.conflict
