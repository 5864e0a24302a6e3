-- What the reader answers: the longest formula that begins the words, or where the first fault stands.
use Rattle.std.specs.Prelude.{◌≡◌, ◌⊎◌, ◌<◌, ◌≤◌, ℕ, ◌+◌, Bool, List, [], ◌∷◌, ◌++◌, length, take, map, Option, Some, None}
use Rattle.std.specs.List.{AllByRecursion}
use Rattle.sw_trees.specs.declared.words.Word.{Word}
use Rattle.sw_trees.specs.declared.tree.Tree.{Tree}
use Rattle.sw_trees.specs.declared.limits.TheConstants.{NESTINGS}
use Rattle.sw_trees.specs.declared.reader.Around.{Around}
use Rattle.sw_trees.specs.declared.reader.Read.{Read}
use Rattle.sw_trees.specs.Measures.{nestings_of}
use Rattle.sw_trees.specs.Grammar.{Mark, Context, End, IsFormula}
use Rattle.sw_trees.specs.Limits.{IsWithin}

abbrev pub base_of : Around → Context
base_of a = record { nestings = a.nestings; iffs = 0; variables = a.variables }

abbrev pub words_in : List Mark → List Word
words_in ms = map (λ m. m.word) ms

-- the marks spell the formula, however they end
abbrev pub Spelled : Context → List Mark → Tree → Type 0
Spelled base ms x = (e : End) × ((i : Bool) × IsFormula base e i ms x [])

-- some formula begins so
abbrev pub CanBegin : Context → List Mark → Type 0
CanBegin base front = (more : List Mark) × ((x : Tree) × Spelled base (front ++ more) x)

-- the first n words are these marks, none of which goes past a limit
pub record Begins (ws : List Word) (n : ℕ) (ms : List Mark) : Type 0 where
  pub within : n ≤ length ws
  pub are : words_in ms ≡ take n ws
  pub allowed : AllByRecursion (λ m. IsWithin m.loads) ms

-- no formula goes on with the word of this number
abbrev pub StopsAt : Context → List Word → ℕ → Type 0
StopsAt base ws n = n < length ws → (ms : List Mark) → words_in ms ≡ take (n + 1) ws → CanBegin base ms → ⊥

-- the first n words spell the formula, and no formula goes on after them
pub record IsLongest (base : Context) (ws : List Word) (n : ℕ) (x : Tree) : Type 0 where
  pub marks : List Mark
  pub begins : Begins ws n marks
  pub spelled : Spelled base marks x
  pub stops : StopsAt base ws n

-- some formula begins with the first n words, none with the next one too, and they are none themselves
pub record IsSyntax (base : Context) (ws : List Word) (n : ℕ) : Type 0 where
  pub marks : List Mark
  pub begins : Begins ws n marks
  pub goes_on : CanBegin base marks
  pub stops : StopsAt base ws n
  pub none : (ms : List Mark) (x : Tree) → words_in ms ≡ take n ws → Spelled base ms x → ⊥

-- some formula begins with the first n words and the next one, which is the first that goes past a limit
pub record GoesPast (base : Context) (ws : List Word) (n : ℕ) : Type 0 where
  pub marks : List Mark
  pub last : Mark
  pub begins : Begins ws n marks
  pub inside : n < length ws
  pub are : words_in (marks ++ last ∷ []) ≡ take (n + 1) ws
  pub goes_on : CanBegin base (marks ++ last ∷ [])
  pub past : IsWithin last.loads → ⊥

-- the first n words are the longest formula, and its canonical text would go past the nestings
pub record IsTooNested (base : Context) (ws : List Word) (n : ℕ) : Type 0 where
  pub tree_is : Tree
  pub longest : IsLongest base ws n tree_is
  pub past : NESTINGS < base.nestings + (nestings_of tree_is).alone

abbrev pub IsAnswer : Context → List Word → Read → Type 0
IsAnswer base ws (Read.Formula x n) = IsLongest base ws n x × (base.nestings + (nestings_of x).alone ≤ NESTINGS)
IsAnswer base ws (Read.Syntax n) = IsSyntax base ws n
IsAnswer base ws (Read.TooDeep n) = GoesPast base ws n ⊎ IsTooNested base ws n

-- what is answered of what was read
abbrev pub EndsAs : Around → ℕ → Option Tree → Read → Type 0
EndsAs a count whole (Read.Formula x n) = (n ≡ count) × (whole ≡ Some x) × (a.nestings + (nestings_of x).alone ≤ NESTINGS)
EndsAs a count whole (Read.Syntax n) = (n ≡ count) × (whole ≡ None)
EndsAs a count whole (Read.TooDeep n) = (n ≡ count) × ((x : Tree) × (whole ≡ Some x) × (NESTINGS < a.nestings + (nestings_of x).alone))
