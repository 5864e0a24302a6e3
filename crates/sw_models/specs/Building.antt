-- A structure in the making, and its entries.
use Rattle.std.specs.Prelude.{◌≡◌, ℕ, ◌^◌, Bool, true, false, ◌&&◌, ◌==◌, nat_lt, List, [], ◌∷◌, map, Option, Some, None, Result, Ok, Err, slice_get, replicate, if◌then◌else◌}
use Rattle.std.specs.List.{list_all, position}
use Rattle.sw_logic.specs.declared.syntax.SymbolKind.{SymbolKind}
use Rattle.sw_logic.specs.declared.syntax.SymbolKind.TheVariants.{Relation, Constant, Function}
use Rattle.sw_logic.specs.declared.syntax.Symbol.{Symbol}
use Rattle.sw_logic.specs.declared.syntax.Signature.{Signature}
use Rattle.sw_logic.specs.declared.structure.Table.{Table}
use Rattle.sw_logic.specs.declared.structure.Table.TheVariants.{Bits, Value, Values}
use Rattle.sw_logic.specs.declared.structure.Structure.{Structure}
use Rattle.sw_logic.specs.Truth.{size_of, args_of, world, place, bit_in, value_in}
use Rattle.sw_logic.specs.Fits.{tuple_count, fits}
use Rattle.sw_models.specs.declared.errors.BuildError.{BuildError}
use Rattle.sw_models.specs.declared.errors.BuildError.TheVariants.{SizeZero, ValueRange, Memory}
use Rattle.sw_logic.specs.Signatures.{is_signature}

-- a signature and the structure of it so far
pub record Building : Type 0 where
  pub signature : Signature
  pub structure : Structure

-- these, by their parts
abbrev pub building : Signature → List ℕ → List Table → Building
building sig sizes tables = record { signature = sig; structure = record { sizes = sizes; tables = tables } }

-- the sort of the first size of 0
abbrev pub first_zero : List ℕ → Option ℕ
first_zero sizes = position (λ n. n == 0) sizes

-- a table whose entries are all false or 0
abbrev pub blank_table : ℕ → SymbolKind → Table
blank_table count Relation = Bits (replicate count false)
blank_table count Constant = Value 0
blank_table count Function = Values (replicate count 0)

-- such a table for each symbol
abbrev pub blank_tables : List ℕ → List Symbol → List Table
blank_tables sizes symbols = map (λ symbol. blank_table (tuple_count sizes symbol.args) symbol.kind) symbols

-- what a new builder answers; want of memory says nothing
abbrev pub Starts : Signature → List ℕ → Result Building BuildError → Type 0
Starts sig sizes (Ok b) = (first_zero sizes ≡ None) × (b ≡ building sig sizes (blank_tables sizes sig.symbols))
Starts sig sizes (Err (SizeZero sort)) = first_zero sizes ≡ Some sort
Starts sig sizes (Err ValueRange) = ⊥
Starts sig sizes (Err Memory) = Unit {0}

-- tables that can be held have fewer than 2 ^ 64 entries
abbrev pub counts_fit : List ℕ → List Symbol → Bool
counts_fit sizes symbols = list_all (λ symbol. nat_lt (tuple_count sizes symbol.args) (2 ^ 64)) symbols

-- the signature speaks only of its sorts, and the structure fits it
abbrev pub is_building : Building → Bool
is_building b = is_signature b.signature && (counts_fit b.structure.sizes b.signature.symbols && fits b.signature b.structure)

-- whether there is one value for each sort, below its size
abbrev pub are_below : List ℕ → List ℕ → List ℕ → Bool
are_below sizes [] [] = true
are_below sizes [] (value ∷ values) = false
are_below sizes (sort ∷ sorts) [] = false
are_below sizes (sort ∷ sorts) (value ∷ values) = nat_lt value (size_of sizes sort) && are_below sizes sorts values

-- how many values an entry of a symbol may have
abbrev pub value_count : List ℕ → SymbolKind → ℕ → ℕ
value_count sizes Relation gives = 2
value_count sizes Constant gives = size_of sizes gives
value_count sizes Function gives = size_of sizes gives

-- a value that the entries of a symbol may have
abbrev pub may_have : List ℕ → Option Symbol → ℕ → Bool
may_have sizes None value = false
may_have sizes (Some symbol) value = nat_lt value (value_count sizes symbol.kind symbol.gives)

-- whether a symbol may have this value at this tuple
abbrev pub is_entry : Building → ℕ → List ℕ → ℕ → Bool
is_entry b symbol tuple value =
    are_below b.structure.sizes (args_of b.signature symbol) tuple && may_have b.structure.sizes (slice_get b.signature.symbols symbol) value

-- what a table has at a place, 1 for true
abbrev pub entry_in : Option Table → ℕ → ℕ
entry_in table at = if bit_in table at then 1 else value_in table at

-- the value of a symbol at a tuple, as truth in the structure reads it
abbrev pub entry : Signature → Structure → ℕ → List ℕ → ℕ
entry sig s symbol tuple = entry_in (slice_get s.tables symbol) (place (world sig s s) symbol tuple)

-- this entry has this value, and all else is as before
pub record IsSet (old new : Building) (symbol : ℕ) (tuple : List ℕ) (value : ℕ) : Type 0 where
  pub signature : new.signature ≡ old.signature
  pub sizes : new.structure.sizes ≡ old.structure.sizes
  pub here : entry new.signature new.structure symbol tuple ≡ value
  pub others : (other : ℕ) (values : List ℕ) → are_below old.structure.sizes (args_of old.signature other) values ≡ true
      → ((other ≡ symbol) × (values ≡ tuple) → ⊥)
      → entry new.signature new.structure other values ≡ entry old.signature old.structure other values
