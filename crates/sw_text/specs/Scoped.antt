-- Formulas in a scope whose variables are named by their number.
use Rattle.std.specs.Prelude.{ℕ, ◌+◌, Bool, true, false, List, [], ◌∷◌, ◌++◌, codes}
use Rattle.std.specs.Fmt.{decimal}
use Rattle.sw_logic.specs.declared.syntax.Symbol.{Symbol}
use Rattle.sw_logic.specs.declared.syntax.Signature.{Signature}
use Rattle.sw_logic.specs.declared.syntax.Binder.{Binder}
use Rattle.sw_logic.specs.declared.variables.Scope.{Scope}
use Rattle.sw_text.specs.declared.names.Place.{Place}
use Rattle.sw_text.specs.Names.{Around}

-- the variable of a number, from 0, is `_1`, `_2` and on
abbrev pub numbered : ℕ → List ℕ → List Binder
numbered n [] = []
numbered n (sort ∷ sorts) = record { name = codes "_" ++ decimal (n + 1); sort = sort } ∷ numbered (n + 1) sorts

abbrev pub variables_of : Scope → List Binder
variables_of scope = numbered 0 scope.sorts

-- the number of a symbol that may change, and none of another
abbrev pub listed_by : Bool → ℕ → List ℕ
listed_by true n = n ∷ []
listed_by false n = []

-- the numbers of the symbols that may change, from this number on
abbrev pub mutable_from : ℕ → List Symbol → List ℕ
mutable_from n [] = []
mutable_from n (s ∷ ss) = listed_by s.mutable n ++ mutable_from (n + 1) ss

-- where post symbols may be read, every symbol that may change is listed as modified
abbrev pub place_by : Signature → Bool → Place
place_by sig true = Place.Step (mutable_from 0 sig.symbols)
place_by sig false = Place.OneState

-- what names are read by in a scope
abbrev pub in_scope : Signature → Scope → List ℕ → Around
in_scope sig scope text = record { text = text; signature = sig; declared_too = []; place = place_by sig scope.post }
