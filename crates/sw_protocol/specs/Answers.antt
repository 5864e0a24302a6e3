-- What the reader of a protocol's words answers: the declarations, or where the first fault stands.
use Rattle.std.specs.Prelude.{◌≡◌, ◌⊎◌, ◌<◌, ℕ, ◌+◌, List, [], ◌∷◌, ◌++◌, length, take}
use Rattle.sw_trees.specs.declared.words.Sign.{Sign}
use Rattle.sw_trees.specs.declared.words.Word.{Word}
use Rattle.sw_trees.specs.Grammar.{Mark}
use Rattle.sw_trees.specs.Limits.{IsWithin}
use Rattle.sw_trees.specs.Answers.{words_in, Begins}
use Rattle.sw_protocol.specs.declared.tree.Declaration.{Declaration}
use Rattle.sw_protocol.specs.declared.parsing.Parsed.{Parsed}
use Rattle.sw_protocol.specs.Grammar.{AreDeclarations}

-- some protocol begins so
abbrev pub CanBegin : List ℕ → List Mark → Type 0
CanBegin text front = (more : List Mark) × ((ds : List Declaration) × AreDeclarations text (front ++ more) ds)

-- all of the words spell the declarations, and none goes past a limit
pub record IsWhole (text : List ℕ) (ws : List Word) (ds : List Declaration) : Type 0 where
  pub marks : List Mark
  pub begins : Begins ws (length ws) marks
  pub spelled : AreDeclarations text marks ds

-- no protocol goes on with the word of this number
abbrev pub StopsAt : List ℕ → List Word → ℕ → Type 0
StopsAt text ws n = n < length ws → (ms : List Mark) → words_in ms ≡ take (n + 1) ws → CanBegin text ms → ⊥

-- a semicolon after these marks, which ends a formula whose canonical text goes past the nestings
pub record EndsPast (text : List ℕ) (ms : List Mark) : Type 0 where
  pub last : Mark
  pub ends : last.word.sign ≡ Sign.Semicolon
  pub goes_on : CanBegin text (ms ++ last ∷ [])
  pub past : IsWithin last.loads → ⊥

-- Some protocol begins with the first n words, none with the next one too, and the words are none
-- themselves. No formula whose canonical text is too deep ends there.
pub record IsSyntax (text : List ℕ) (ws : List Word) (n : ℕ) : Type 0 where
  pub marks : List Mark
  pub begins : Begins ws n marks
  pub goes_on : CanBegin text marks
  pub stops : StopsAt text ws n
  pub none : (ms : List Mark) (ds : List Declaration) → words_in ms ≡ ws → AreDeclarations text ms ds → ⊥
  pub shallow : EndsPast text marks → ⊥

-- some protocol begins with the first n words and the next one, which is the first that goes past a limit
pub record GoesPast (text : List ℕ) (ws : List Word) (n : ℕ) : Type 0 where
  pub marks : List Mark
  pub last : Mark
  pub begins : Begins ws n marks
  pub inside : n < length ws
  pub are : words_in (marks ++ last ∷ []) ≡ take (n + 1) ws
  pub goes_on : CanBegin text (marks ++ last ∷ [])
  pub past : IsWithin last.loads → ⊥

-- after the first n words, with which no protocol goes on, a formula ends whose canonical text is too deep
pub record IsTooNested (text : List ℕ) (ws : List Word) (n : ℕ) : Type 0 where
  pub marks : List Mark
  pub begins : Begins ws n marks
  pub stops : StopsAt text ws n
  pub ends : EndsPast text marks

abbrev pub IsAnswer : List ℕ → List Word → Parsed → Type 0
IsAnswer text ws (Parsed.Whole ds) = IsWhole text ws ds
IsAnswer text ws (Parsed.Syntax n) = IsSyntax text ws n
IsAnswer text ws (Parsed.TooDeep n) = GoesPast text ws n ⊎ IsTooNested text ws n

-- a list of words has one answer
abbrev pub OneParse : Type 0
OneParse = (text : List ℕ) (ws : List Word) (r s : Parsed) → IsAnswer text ws r → IsAnswer text ws s → r ≡ s
