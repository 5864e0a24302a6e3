use Rattle.std.proofs.Common.{◌≡◌, map, take}
use Rattle.sw_refute.specs.Satisfaction.{negation}
use Rattle.sw_refute.specs.Trail.{IsTrail}
use Rattle.sw_refute.proofs.trail.Trail.negate_all.Given as goal

-- the negations of the literals so far are true
abbrev pub invariant-loop-lit : goal.invariant-loop-lit
invariant-loop-lit l = record {
  trail : IsTrail l.self;
  variables : l.self.variables ≡ l.initial.self.variables;
  lits : l.self.lits.items ≡ map negation (take l.lit-index l.lits);
}
