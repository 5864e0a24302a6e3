-- The symbols that a step adds to a signature.
use Rattle.std.specs.Prelude.{ℕ, false, List, [], ◌∷◌, Option, Some, None, slice_get}
use Rattle.sw_logic.specs.declared.syntax.SymbolKind.TheVariants.{Constant}
use Rattle.sw_logic.specs.declared.syntax.Symbol.{Symbol}
use Rattle.sw_logic.specs.declared.syntax.Binder.{Binder}

abbrev pub with_symbol : Option Symbol → List Symbol → List Symbol
with_symbol None rest = rest
with_symbol (Some s) rest = s ∷ rest

-- the symbols of these numbers
abbrev pub copies_of : List Symbol → List ℕ → List Symbol
copies_of symbols [] = []
copies_of symbols (m ∷ ms) = with_symbol (slice_get symbols m) (copies_of symbols ms)

-- a constant of a parameter's sort
abbrev pub constant_for : Binder → Symbol
constant_for b = record { name = b.name; kind = Constant; args = []; gives = b.sort; mutable = false }
