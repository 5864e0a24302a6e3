-- Which signatures are declared rightly.
use Rattle.std.specs.Prelude.{ℕ, Bool, true, ◌&&◌, ◌==◌, nat_lt, List, length}
use Rattle.std.specs.List.{list_all}
use Rattle.sw_logic.specs.declared.syntax.SymbolKind.{SymbolKind}
use Rattle.sw_logic.specs.declared.syntax.SymbolKind.TheVariants.{Relation, Constant, Function}
use Rattle.sw_logic.specs.declared.syntax.Symbol.{Symbol}
use Rattle.sw_logic.specs.declared.syntax.Signature.{Signature}

-- a value is of a sort that there is; a constant has no arguments, and a function has some
abbrev pub is_of_kind : ℕ → SymbolKind → List ℕ → ℕ → Bool
is_of_kind sorts Relation args gives = true
is_of_kind sorts Constant args gives = (length args == 0) && nat_lt gives sorts
is_of_kind sorts Function args gives = nat_lt 0 (length args) && nat_lt gives sorts

-- arguments are of sorts that there are, and so is a value
abbrev pub is_symbol : ℕ → Symbol → Bool
is_symbol sorts symbol = list_all (λ sort. nat_lt sort sorts) symbol.args && is_of_kind sorts symbol.kind symbol.args symbol.gives

-- all symbols are so
abbrev pub is_signature : Signature → Bool
is_signature sig = list_all (is_symbol (length sig.sorts)) sig.symbols
