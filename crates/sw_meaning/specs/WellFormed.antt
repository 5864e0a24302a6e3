-- What every protocol that is read keeps to.
use Rattle.std.specs.Prelude.{◌≡◌, ℕ, ◌+◌, ◌≤◌, Bool, true, false, not, ◌||◌, ◌==◌, List, map, length, Option, Some, None, slice_get}
use Rattle.std.specs.List.{AllByRecursion, list_any}
use Rattle.sw_logic.specs.declared.syntax.Symbol.{Symbol}
use Rattle.sw_logic.specs.declared.syntax.Signature.{Signature}
use Rattle.sw_logic.specs.declared.syntax.Formula.{Formula}
use Rattle.sw_logic.specs.Truth.{binds}
use Rattle.sw_logic.specs.Sorted.{well_sorted, are_sorts}
use Rattle.sw_logic.specs.Signatures.{is_signature}
use Rattle.sw_logic.specs.Queries.{IsSentence}
use Rattle.sw_logic.specs.Terms.{reads}
use Rattle.sw_meaning.specs.declared.protocol.Protocol.{Protocol}
use Rattle.sw_meaning.specs.declared.protocol.Transition.{Transition}

-- a sentence with at most 32 variables in scope
pub record IsClosed (sig : Signature) (f : Formula) : Type 0 where
  pub sorted : IsSentence sig f
  pub few : binds f ≤ 32

abbrev pub may_change : Option Symbol → Bool
may_change None = false
may_change (Some s) = s.mutable

abbrev pub may_not_change : Option Symbol → Bool
may_not_change None = false
may_not_change (Some s) = not s.mutable

-- there is a symbol of this number, and it may change; and one that may not
abbrev pub is_mutable : Signature → ℕ → Bool
is_mutable sig symbol = may_change (slice_get sig.symbols symbol)

abbrev pub is_immutable : Signature → ℕ → Bool
is_immutable sig symbol = may_not_change (slice_get sig.symbols symbol)

-- axioms read only symbols that may not change
pub record IsAxiom (sig : Signature) (f : Formula) : Type 0 where
  pub closed : IsClosed sig f
  pub immutable : reads (λ symbol post. is_immutable sig symbol) f ≡ true

-- the symbol is plain, or is one of these
abbrev pub may_be_primed : List ℕ → ℕ → Bool → Bool
may_be_primed modifies symbol post = not post || list_any (λ m. m == symbol) modifies

-- well sorted over its parameters, with at most 32 variables in scope; what it modifies may change, and it primes nothing else
pub record IsTransition (sig : Signature) (t : Transition) : Type 0 where
  pub params : are_sorts sig t.params ≡ true
  pub modifies : AllByRecursion (λ m. is_mutable sig m ≡ true) t.modifies
  pub sorted : well_sorted sig true t.formula (map (λ b. b.sort) t.params) ≡ true
  pub few : length t.params + binds t.formula ≤ 32
  pub primed : reads (may_be_primed t.modifies) t.formula ≡ true

-- the signature is declared rightly, and each part is as its kind asks
pub record IsWellFormed (p : Protocol) : Type 0 where
  pub signature : is_signature p.signature ≡ true
  pub axioms : AllByRecursion (IsAxiom p.signature) p.axioms
  pub inits : AllByRecursion (IsClosed p.signature) p.inits
  pub transitions : AllByRecursion (IsTransition p.signature) p.transitions
  pub safeties : AllByRecursion (IsClosed p.signature) p.safeties
