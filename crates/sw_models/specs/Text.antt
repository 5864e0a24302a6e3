-- The text of a structure.
use Rattle.std.specs.Prelude.{ℕ, Bool, true, false, List, [], ◌∷◌, ◌++◌, map, codes}
use Rattle.std.specs.Fmt.{decimal}
use Rattle.std.specs.List.{flat_map}
use Rattle.sw_logic.specs.declared.syntax.SymbolKind.{SymbolKind}
use Rattle.sw_logic.specs.declared.syntax.SymbolKind.TheVariants.{Relation, Constant, Function}
use Rattle.sw_logic.specs.declared.syntax.Symbol.{Symbol}
use Rattle.sw_logic.specs.declared.syntax.Signature.{Signature}
use Rattle.sw_logic.specs.declared.structure.Table.{Table}
use Rattle.sw_logic.specs.declared.structure.Table.TheVariants.{Bits, Value, Values}
use Rattle.sw_logic.specs.declared.structure.Structure.{Structure}

-- 0 for false and 1 for true
abbrev pub bit_digit : Bool → ℕ
bit_digit false = 48
bit_digit true = 49

-- the numbers, each after a space
abbrev pub others_text : List ℕ → List ℕ
others_text values = flat_map (λ value. 32 ∷ decimal value) values

-- the numbers, with a space between two
abbrev pub values_text : List ℕ → List ℕ
values_text [] = []
values_text (value ∷ values) = decimal value ++ others_text values

-- what a table is written as
abbrev pub table_text : Table → List ℕ
table_text (Bits bits) = map bit_digit bits
table_text (Value value) = decimal value
table_text (Values values) = values_text values

-- the word that the line of such a symbol begins with
abbrev pub kind_word : SymbolKind → List ℕ
kind_word Relation = codes "relation"
kind_word Constant = codes "constant"
kind_word Function = codes "function"

-- with a space after it
abbrev pub spaced : List ℕ → List ℕ
spaced word = word ++ 32 ∷ []

-- how a line begins: a word and a name, with a space after each
abbrev pub line_start : List ℕ → List ℕ → List ℕ
line_start word name = spaced word ++ spaced name

-- a line of this start and this body, and what stands below it
abbrev pub line_above : List ℕ → List ℕ → List ℕ → List ℕ
line_above start body below = start ++ (body ++ 10 ∷ below)

-- a line for each sort
abbrev pub sizes_text : List (List ℕ) → List ℕ → List ℕ
sizes_text [] sizes = []
sizes_text (name ∷ names) [] = []
sizes_text (name ∷ names) (size ∷ sizes) =
    line_above (line_start (codes "size") name) (decimal size) (sizes_text names sizes)

-- a line for each symbol
abbrev pub tables_text : List Symbol → List Table → List ℕ
tables_text [] tables = []
tables_text (symbol ∷ symbols) [] = []
tables_text (symbol ∷ symbols) (table ∷ tables) =
    line_above (line_start (kind_word symbol.kind) symbol.name) (table_text table) (tables_text symbols tables)

-- the first line, then one for each sort, then one for each symbol
abbrev pub structure_text : Signature → Structure → List ℕ
structure_text sig s =
    line_above (codes "structure") [] (sizes_text sig.sorts s.sizes ++ tables_text sig.symbols s.tables)
