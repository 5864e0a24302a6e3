-- What each step of the reading does.
use Rattle.std.specs.Prelude.{◌≡◌, ◌≢◌, ℕ, ◌-◌, ◌≤◌, List, [], ◌++◌, map, length, All, None, Result, Err}
use Rattle.sw_logic.specs.declared.syntax.Symbol.{Symbol}
use Rattle.sw_logic.specs.declared.structure.Table.{Table}
use Rattle.sw_logic.specs.declared.structure.Structure.{Structure}
use Rattle.sw_models.specs.declared.errors.StructureError.{StructureError}
use Rattle.sw_models.specs.Text.{line_above}
use Rattle.sw_models.specs.Reading.{Line, Content, Begins, fault_of, Has}

-- the bytes begin with a line of this start and this body, and go on below it
pub record IsLine (start body below bytes : List ℕ) : Type 0 where
  pub one_line : All (λ b. b ≢ 10) body
  pub text : bytes ≡ line_above start body below

-- no line of this start begins the bytes
abbrev pub HasNoLine : List ℕ → List ℕ → Type 0
HasNoLine start bytes = (body below : List ℕ) → bytes ≢ line_above start body below

-- the line that is expected is there, and what it says is right
pub record InOrder (sizes : List ℕ) (at : ℕ) (line : Line) (content : Content) (below bytes : List ℕ) : Type 0 where
  pub begins : Begins line content below bytes
  pub right : fault_of sizes at line content ≡ None

-- these are the sizes of the sorts, and what is below them; the text ends at this place
pub record SizesRead (end : ℕ) (sorts : List (List ℕ)) (sizes below bytes : List ℕ) : Type 0 where
  pub within : length below ≤ end
  pub goes_on : (r : Result Structure StructureError) (lines : List Line)
      → Has r lines sizes [] (end - length below) below → Has r (map Line.of_sort sorts ++ lines) [] [] (end - length bytes) bytes

-- these are the tables of the symbols, and what is below them
pub record TablesRead (end : ℕ) (symbols : List Symbol) (sizes : List ℕ) (tables : List Table) (below bytes : List ℕ) : Type 0 where
  pub within : length below ≤ end
  pub goes_on : (r : Result Structure StructureError) (lines : List Line)
      → Has r lines sizes tables (end - length below) below → Has r (map Line.of_symbol symbols ++ lines) sizes [] (end - length bytes) bytes

-- among these lines is the first fault; want of memory says nothing
abbrev pub FailsAt : List Line → List ℕ → ℕ → List ℕ → StructureError → Type 0
FailsAt lines sizes end bytes e =
    e ≢ StructureError.Memory → (more : List Line) → Has (Err e) (lines ++ more) sizes [] (end - length bytes) bytes
