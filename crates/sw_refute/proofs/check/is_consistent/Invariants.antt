use Rattle.std.proofs.Common.{◌≡◌, false, take, get_or}
use Rattle.std.specs.List.{list_any}
use Rattle.sw_refute.specs.declared.clauses.Lit.{Lit}
use Rattle.sw_refute.proofs.check.is_consistent.Given as goal

-- no literal so far is true
abbrev pub invariant-loop-lit : goal.invariant-loop-lit
invariant-loop-lit l = list_any (λ (x : Lit). get_or l.trail.truth.items x.0 false) (take l.lit-index l.lit-items) ≡ false
