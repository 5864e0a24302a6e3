-- The formulas of a protocol bind few variables.
use Rattle.std.specs.Prelude.{◌≤◌}
use Rattle.sw_lists.proofs.Each.{each-weaker}
use Rattle.sw_logic.specs.Truth.{binds}
use Rattle.sw_meaning.specs.declared.protocol.Protocol.{Protocol}
use Rattle.sw_meaning.specs.WellFormed.{IsWellFormed, IsAxiom, IsClosed}
use Rattle.sw_filter.specs.Filters.{AreNarrow}

module _ (p : Protocol) (ok : IsWellFormed p) where
  pub narrow_axioms : AreNarrow p.axioms
  narrow_axioms = each-weaker (IsAxiom p.signature) (λ f. binds f ≤ 32) (λ f a. a.closed.few) p.axioms ok.axioms

  pub narrow_inits : AreNarrow p.inits
  narrow_inits = each-weaker (IsClosed p.signature) (λ f. binds f ≤ 32) (λ f c. c.few) p.inits ok.inits

  pub narrow_safeties : AreNarrow p.safeties
  narrow_safeties = each-weaker (IsClosed p.signature) (λ f. binds f ≤ 32) (λ f c. c.few) p.safeties ok.safeties
