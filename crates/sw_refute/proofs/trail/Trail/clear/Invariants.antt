use Rattle.std.proofs.Common.{◌≡◌, ◌<◌, ◌*◌, true, false, length, get_or, Contains, vec_len}
use Rattle.sw_refute.specs.declared.clauses.Lit.{Lit}
use Rattle.sw_refute.proofs.trail.Trail.clear.Given as goal

-- the table is true only at literals that are still to be cleared
abbrev pub invariant-loop-lit : goal.invariant-loop-lit
invariant-loop-lit l = record {
  size : length l.self.truth.items ≡ 2 * l.self.variables;
  variables : l.self.variables ≡ l.initial.self.variables;
  within : (m : Lit) → Contains l.self.lits.items m → m.0 < length l.self.truth.items;
  among : (m : Lit) → get_or l.self.truth.items m.0 false ≡ true → Contains l.self.lits.items m;
}

abbrev pub decreases-loop-lit : goal.decreases-loop-lit
decreases-loop-lit l = vec_len l.self.lits
