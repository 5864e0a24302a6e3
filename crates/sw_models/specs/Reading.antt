-- What a text has: a structure, or its first fault.
use Rattle.std.specs.Prelude.{◌≡◌, ◌≢◌, ℕ, ◌+◌, ◌<◌, ◌^◌, true, ◌==◌, nat_lt, List, [], ◌∷◌, ◌++◌, map, length, All, Option, Some, None, Result, Ok, Err, if◌then◌else◌, codes}
use Rattle.std.specs.Fmt.{decimal}
use Rattle.sw_logic.specs.declared.syntax.SymbolKind.{SymbolKind}
use Rattle.sw_logic.specs.declared.syntax.SymbolKind.TheVariants.{Relation, Constant, Function}
use Rattle.sw_logic.specs.declared.syntax.Symbol.{Symbol}
use Rattle.sw_logic.specs.declared.syntax.Signature.{Signature}
use Rattle.sw_logic.specs.declared.structure.Table.{Table}
use Rattle.sw_logic.specs.declared.structure.Table.TheVariants.{Bits, Value, Values}
use Rattle.sw_logic.specs.declared.structure.Structure.{Structure}
use Rattle.sw_logic.specs.Truth.{size_of}
use Rattle.sw_logic.specs.Fits.{tuple_count, fits}
use Rattle.sw_models.specs.declared.errors.StructureError.{StructureError}
use Rattle.sw_models.specs.declared.errors.StructureError.TheVariants.{Syntax, SizeZero, TableLength, ValueRange, Memory}
use Rattle.sw_logic.specs.Signatures.{is_signature}
use Rattle.sw_models.specs.Text.{table_text, kind_word, line_start, line_above, structure_text}

-- a line that is expected: the first, one of a sort, one of a symbol
pub data Line : Type 0 where
  first : Line
  of_sort : List ℕ → Line
  of_symbol : Symbol → Line

-- what a line says
pub data Content : Type 0 where
  nothing : Content
  a_size : ℕ → Content
  a_table : Table → Content

-- how an expected line begins
abbrev pub start_of : Line → List ℕ
start_of Line.first = codes "structure"
start_of (Line.of_sort name) = line_start (codes "size") name
start_of (Line.of_symbol symbol) = line_start (kind_word symbol.kind) symbol.name

-- what stands after that
abbrev pub body_of : Content → List ℕ
body_of Content.nothing = []
body_of (Content.a_size n) = decimal n
body_of (Content.a_table table) = table_text table

-- numbers are below 2 ^ 32
abbrev pub IsNumber : ℕ → Type 0
IsNumber n = n < 2 ^ 32

-- a table that a line of this kind of symbol may have: at least one bit, one number, or at least one number
abbrev pub IsTableOf : SymbolKind → Table → Type 0
IsTableOf Relation (Bits bits) = bits ≢ []
IsTableOf Constant (Value value) = IsNumber value
IsTableOf Function (Values values) = (values ≢ []) × All IsNumber values
IsTableOf kind table = ⊥

-- what a line may say
abbrev pub IsOf : Line → Content → Type 0
IsOf Line.first Content.nothing = Unit {0}
IsOf (Line.of_sort name) (Content.a_size n) = IsNumber n
IsOf (Line.of_symbol symbol) (Content.a_table table) = IsTableOf symbol.kind table
IsOf line content = ⊥

-- the bytes begin with the line, with this content, and go on below it
pub record Begins (line : Line) (content : Content) (below bytes : List ℕ) : Type 0 where
  pub form : IsOf line content
  pub text : bytes ≡ line_above (start_of line) (body_of content) below

-- the first value that is not below the size; the first value of the list stands at this place
abbrev pub value_fault : ℕ → ℕ → List ℕ → Option StructureError
value_fault size at [] = None
value_fault size at (value ∷ values) =
    if nat_lt value size then value_fault size (at + length (decimal value) + 1) values else Some (ValueRange at)

-- the fault of a symbol's table, whose first bit or value stands at this place
abbrev pub table_fault : List ℕ → Symbol → ℕ → Table → Option StructureError
table_fault sizes symbol at (Bits bits) =
    if length bits == tuple_count sizes symbol.args then None else Some (TableLength at)
table_fault sizes symbol at (Value value) = value_fault (size_of sizes symbol.gives) at (value ∷ [])
table_fault sizes symbol at (Values values) =
    if length values == tuple_count sizes symbol.args then value_fault (size_of sizes symbol.gives) at values
    else Some (TableLength at)

-- the fault of what a line says, after lines with these sizes; the line begins at this place
abbrev pub fault_of : List ℕ → ℕ → Line → Content → Option StructureError
fault_of sizes at (Line.of_sort name) (Content.a_size n) = if n == 0 then Some (SizeZero at) else None
fault_of sizes at (Line.of_symbol symbol) (Content.a_table table) =
    table_fault sizes symbol (at + length (start_of (Line.of_symbol symbol))) table
fault_of sizes at line content = None

-- the fault of the line that is expected where these bytes begin: it is not there, or what it says is wrong
pub data IsFault (sizes : List ℕ) (at : ℕ) (line : Line) (bytes : List ℕ) (e : StructureError) : Type 0 where
  missing : ((content : Content) (below : List ℕ) → Begins line content below bytes → ⊥) → e ≡ Syntax at → IsFault sizes at line bytes e
  wrong : (content : Content) (below : List ℕ) → Begins line content below bytes → fault_of sizes at line content ≡ Some e → IsFault sizes at line bytes e

-- the sizes and the tables that a line gives
abbrev pub sizes_in : Content → List ℕ
sizes_in (Content.a_size n) = n ∷ []
sizes_in content = []

abbrev pub tables_in : Content → List Table
tables_in (Content.a_table table) = table ∷ []
tables_in content = []

-- where the line below begins
abbrev pub place_below : ℕ → Line → Content → ℕ
place_below at line content = at + (length (start_of line) + (length (body_of content) + 1))

-- what the bytes from a place on have, where these lines are expected, after these sizes and tables
pub data Has (r : Result Structure StructureError) : List Line → List ℕ → List Table → ℕ → List ℕ → Type 0 where
  end : {sizes : List ℕ} {tables : List Table} {at : ℕ} → r ≡ Ok (record { sizes = sizes; tables = tables }) → Has r [] sizes tables at []
  more : {sizes : List ℕ} {tables : List Table} {at b : ℕ} {bytes : List ℕ} → r ≡ Err (Syntax at) → Has r [] sizes tables at (b ∷ bytes)
  fault : {line : Line} {lines : List Line} {sizes : List ℕ} {tables : List Table} {at : ℕ} {bytes : List ℕ}
      → (e : StructureError) → IsFault sizes at line bytes e → r ≡ Err e → Has r (line ∷ lines) sizes tables at bytes
  next : {line : Line} {lines : List Line} {sizes : List ℕ} {tables : List Table} {at : ℕ} {bytes : List ℕ}
      → (content : Content) (below : List ℕ) → Begins line content below bytes → fault_of sizes at line content ≡ None
      → Has r lines (sizes ++ sizes_in content) (tables ++ tables_in content) (place_below at line content) below
      → Has r (line ∷ lines) sizes tables at bytes

-- the lines of a structure of the signature
abbrev pub lines_of : Signature → List Line
lines_of sig = Line.first ∷ (map Line.of_sort sig.sorts ++ map Line.of_symbol sig.symbols)

-- what a text has
abbrev pub HasText : Signature → List ℕ → Result Structure StructureError → Type 0
HasText sig text r = Has r (lines_of sig) [] [] 0 text

-- what an answer says of the text; want of memory says nothing
abbrev pub answer_of : Result Structure StructureError → Option (Result Structure StructureError)
answer_of (Ok s) = Some (Ok s)
answer_of (Err (Syntax at)) = Some (Err (Syntax at))
answer_of (Err (SizeZero at)) = Some (Err (SizeZero at))
answer_of (Err (TableLength at)) = Some (Err (TableLength at))
answer_of (Err (ValueRange at)) = Some (Err (ValueRange at))
answer_of (Err Memory) = None

-- a text has one answer
abbrev pub OneAnswer : Type 0
OneAnswer = (sig : Signature) (text : List ℕ) (r s : Result Structure StructureError) → HasText sig text r → HasText sig text s → r ≡ s

-- the text of a structure that fits reads back as that structure
abbrev pub PrintedReadsBack : Type 0
PrintedReadsBack =
    (sig : Signature) (s : Structure) → is_signature sig ≡ true → fits sig s ≡ true → All IsNumber s.sizes → HasText sig (structure_text sig s) (Ok s)
