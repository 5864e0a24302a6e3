-- Which structures are of a signature, and which pairs.
use Rattle.std.specs.Prelude.{◌≡◌, ℕ, ◌*◌, Bool, true, false, ◌&&◌, ◌==◌, nat_lt, List, [], ◌∷◌, length}
use Rattle.std.specs.List.{list_all}
use Rattle.sw_logic.specs.declared.syntax.SymbolKind.{SymbolKind}
use Rattle.sw_logic.specs.declared.syntax.SymbolKind.TheVariants.{Relation, Constant, Function}
use Rattle.sw_logic.specs.declared.syntax.Symbol.{Symbol}
use Rattle.sw_logic.specs.declared.syntax.Signature.{Signature}
use Rattle.sw_logic.specs.declared.structure.Table.{Table}
use Rattle.sw_logic.specs.declared.structure.Table.TheVariants.{Bits, Value, Values}
use Rattle.sw_logic.specs.declared.structure.Structure.{Structure}
use Rattle.sw_logic.specs.declared.structure.Pair.{Pair}
use Rattle.sw_logic.specs.Truth.{size_of}

-- how many tuples of these sorts there are
abbrev pub tuple_count : List ℕ → List ℕ → ℕ
tuple_count sizes [] = 1
tuple_count sizes (sort ∷ sorts) = size_of sizes sort * tuple_count sizes sorts

-- whether a table is of its symbol: its kind, its length, and its values below the size of their sort
abbrev pub table_fits : List ℕ → List ℕ → ℕ → SymbolKind → Table → Bool
table_fits sizes args gives Relation (Bits bits) = length bits == tuple_count sizes args
table_fits sizes args gives Constant (Value value) = nat_lt value (size_of sizes gives)
table_fits sizes args gives Function (Values values) =
    (length values == tuple_count sizes args) && list_all (λ v. nat_lt v (size_of sizes gives)) values
table_fits sizes args gives kind table = false

-- whether there is one table for each symbol, each of its symbol
abbrev pub tables_fit : List ℕ → List Symbol → List Table → Bool
tables_fit sizes [] [] = true
tables_fit sizes [] (table ∷ tables) = false
tables_fit sizes (symbol ∷ symbols) [] = false
tables_fit sizes (symbol ∷ symbols) (table ∷ tables) =
    table_fits sizes symbol.args symbol.gives symbol.kind table && tables_fit sizes symbols tables

-- one size for each sort, none of them 0, and the tables fit
abbrev pub fits : Signature → Structure → Bool
fits sig s = (length s.sizes == length sig.sorts) && (list_all (λ n. nat_lt 0 n) s.sizes && tables_fit s.sizes sig.symbols s.tables)

-- the symbols that may not change have equal tables
abbrev pub AgreeOn : List Symbol → List Table → List Table → Type 0
AgreeOn [] before after = Unit {0}
AgreeOn (symbol ∷ symbols) (b ∷ before) (a ∷ after) = (symbol.mutable ≡ false → b ≡ a) × AgreeOn symbols before after
AgreeOn (symbol ∷ symbols) [] after = ⊥
AgreeOn (symbol ∷ symbols) (b ∷ before) [] = ⊥

-- both fit, with equal sizes, and what may not change is equal
pub record FitsPair (sig : Signature) (p : Pair) : Type 0 where
  pub before : fits sig p.before ≡ true
  pub after : fits sig p.after ≡ true
  pub sizes : p.before.sizes ≡ p.after.sizes
  pub agree : AgreeOn sig.symbols p.before.tables p.after.tables
