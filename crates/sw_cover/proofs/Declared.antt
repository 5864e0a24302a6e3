-- What a signature that is declared rightly says of each of its symbols.
use Rattle.std.specs.Prelude.{◌≡◌, ℕ, ◌<◌, ◌==◌, nat_lt, true, List, [], ◌∷◌, length, slice_get, Some}
use Rattle.std.specs.List.{list_all}
use Rattle.std.proofs.Common.{arith, refl}
use Rattle.std.proofs.lemmas.Bool.{and_parts, false≢true, ltb-true, eqb-true}
use Rattle.sw_logic.specs.declared.syntax.SymbolKind.{SymbolKind}
use Rattle.sw_logic.specs.declared.syntax.SymbolKind.TheVariants.{Relation, Constant, Function}
use Rattle.sw_logic.specs.declared.syntax.Symbol.{Symbol}
use Rattle.sw_logic.specs.declared.syntax.Signature.{Signature}
use Rattle.sw_logic.specs.Signatures.{is_signature, is_symbol, is_of_kind}
use Rattle.sw_logic.specs.Sorted.{gives_value}
use Rattle.sw_lists.proofs.Tests.{true_at}

-- a constant has no arguments, a function has some, and the value of either has a sort
pub record IsDeclared (sorts : ℕ) (s : Symbol) : Type 0 where
  pub constant : s.kind ≡ Constant → s.args ≡ []
  pub function : s.kind ≡ Function → 0 < length s.args
  pub value : gives_value s.kind ≡ true → s.gives < sorts

none_of : (args : List ℕ) → (length args == 0) ≡ true → args ≡ []
none_of [] e = refl
none_of (a ∷ args) e = absurd (omega (arith, eqb-true (length (a ∷ args)) 0 e))

module _ (sorts : ℕ) (s : Symbol) where
  constant : (k : SymbolKind) → is_of_kind sorts k s.args s.gives ≡ true → k ≡ Constant → s.args ≡ []
  constant Relation h e = cc
  constant Constant h e = none_of s.args (and_parts (length s.args == 0) (nat_lt s.gives sorts) h).0
  constant Function h e = cc

  function : (k : SymbolKind) → is_of_kind sorts k s.args s.gives ≡ true → k ≡ Function → 0 < length s.args
  function Relation h e = cc
  function Constant h e = cc
  function Function h e = ltb-true 0 (length s.args) (and_parts (nat_lt 0 (length s.args)) (nat_lt s.gives sorts) h).0

  value : (k : SymbolKind) → is_of_kind sorts k s.args s.gives ≡ true → gives_value k ≡ true → s.gives < sorts
  value Relation h e = absurd (false≢true e)
  value Constant h e = ltb-true s.gives sorts (and_parts (length s.args == 0) (nat_lt s.gives sorts) h).1
  value Function h e = ltb-true s.gives sorts (and_parts (nat_lt 0 (length s.args)) (nat_lt s.gives sorts) h).1

  is_declared : is_symbol sorts s ≡ true → IsDeclared sorts s
  is_declared good =
      let kind : is_of_kind sorts s.kind s.args s.gives ≡ true = (and_parts (list_all (λ sort. nat_lt sort sorts) s.args) (is_of_kind sorts s.kind s.args s.gives) good).1 in
      record { constant = constant s.kind kind; function = function s.kind kind; value = value s.kind kind }

pub declared_at : (sig : Signature) → is_signature sig ≡ true → (i : ℕ) (s : Symbol) → slice_get sig.symbols i ≡ Some s → IsDeclared (length sig.sorts) s
declared_at sig good i s e = is_declared (length sig.sorts) s (true_at (is_symbol (length sig.sorts)) sig.symbols i s good e)
