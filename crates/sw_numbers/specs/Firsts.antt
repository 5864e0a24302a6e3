-- Where each symbol's applications begin among the ground terms of its sort.
use Rattle.std.specs.Prelude.{◌≡◌, ◌<◌, ◌≤◌, ◌+◌, ◌&&◌, ◌==◌, ℕ, Bool, true, false, cond, List, [], ◌∷◌, length, take, replicate, Some, slice_get, slice_set}
use Rattle.sw_logic.specs.declared.syntax.SymbolKind.{SymbolKind}
use Rattle.sw_logic.specs.declared.syntax.SymbolKind.TheVariants.{Relation, Constant, Function}
use Rattle.sw_logic.specs.declared.syntax.Symbol.{Symbol}
use Rattle.sw_logic.specs.declared.syntax.Signature.{Signature}
use Rattle.sw_logic.specs.Truth.{size_of}
use Rattle.sw_universe.specs.GroundTerms.{is_constant, is_function}
use Rattle.sw_universe.specs.Counting.{choices_in}

-- how many tuples of ground terms of these sorts there are
abbrev pub many : List ℕ → List ℕ → ℕ
many sizes = choices_in (size_of sizes)

-- whether a kind is this one, of those that give a value
abbrev pub of_kind : SymbolKind → SymbolKind → Bool
of_kind Relation k = false
of_kind Constant k = is_constant k
of_kind Function k = is_function k

-- how many applications the symbols of the kind have that give the sort
abbrev pub applied_of : List ℕ → SymbolKind → ℕ → List Symbol → ℕ
applied_of sizes kind sort [] = 0
applied_of sizes kind sort (s ∷ ss) = cond (of_kind kind s.kind && (s.gives == sort)) (many sizes s.args + applied_of sizes kind sort ss) (applied_of sizes kind sort ss)

-- each symbol of the kind has its sort's next number, which moved behind the applications of those before it
pub record ArePlaced (sizes : List ℕ) (kind : SymbolKind) (symbols : List Symbol) (start firsts after more : List ℕ) : Type 0 where
  pub next : (sort n : ℕ) → slice_get start sort ≡ Some n → slice_get after sort ≡ Some (n + applied_of sizes kind sort symbols)
  pub placed : (i : ℕ) (s : Symbol) (n : ℕ) → slice_get symbols i ≡ Some s → of_kind kind s.kind ≡ true → slice_get start s.gives ≡ Some n
      → slice_get more i ≡ Some (n + applied_of sizes kind s.gives (take i symbols))
  pub kept : (i : ℕ) (s : Symbol) → slice_get symbols i ≡ Some s → of_kind kind s.kind ≡ false → slice_get more i ≡ slice_get firsts i
  pub beyond : (i : ℕ) → length symbols ≤ i → slice_get more i ≡ slice_get firsts i

-- first the constants, then the functions
pub record AreFirsts (sig : Signature) (sizes firsts : List ℕ) : Type 0 where
  pub after : List ℕ
  pub more : List ℕ
  pub last : List ℕ
  pub constants : ArePlaced sizes Constant sig.symbols (replicate (length sizes) 0) (replicate (length sig.symbols) 0) after more
  pub functions : ArePlaced sizes Function sig.symbols after more last firsts

-- one symbol is placed
pub record IsPlaced (sizes : List ℕ) (s : Symbol) (i : ℕ) (start firsts after more : List ℕ) : Type 0 where
  pub first : ℕ
  pub at : slice_get start s.gives ≡ Some first
  pub within : i < length firsts
  pub next : after ≡ slice_set start s.gives (first + many sizes s.args)
  pub placed : more ≡ slice_set firsts i first
