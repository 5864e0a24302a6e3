use Rattle.std.proofs.Common.{◌≡◌, take}
use Rattle.sw_refute.specs.Propagation.{AreAccepted}
use Rattle.sw_refute.specs.Trail.{IsTrail}
use Rattle.sw_refute.proofs.check.check_steps.Given as goal

-- the steps so far are accepted
abbrev pub invariant-loop-k : goal.invariant-loop-k
invariant-loop-k l = record {
  trail : IsTrail l.trail;
  variables : l.trail.variables ≡ l.cnf.variables;
  accepted : AreAccepted l.cnf.variables l.cnf.clauses (take l.k l.steps);
}
