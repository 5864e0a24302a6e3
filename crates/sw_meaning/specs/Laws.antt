-- Laws of the definitions, each the contract of a function of the crate.
use Rattle.std.specs.Prelude.{◌≡◌, ℕ, List, [], Option, Some, Contains}
use Rattle.std.specs.List.{AllByRecursion}
use Rattle.sw_logic.specs.declared.syntax.Formula.{Formula}
use Rattle.sw_logic.specs.declared.structure.Structure.{Structure}
use Rattle.sw_logic.specs.Truth.{AreTrueIn, truth, world}
use Rattle.sw_meaning.specs.declared.protocol.Protocol.{Protocol}
use Rattle.sw_meaning.specs.Runs.{Reached}
use Rattle.sw_meaning.specs.declared.template.Template.{Template}
use Rattle.sw_meaning.specs.Space.{InSpace}
use Rattle.sw_meaning.specs.Inductive.{Earned, Closed, Follows}
use Rattle.sw_meaning.specs.Classes.{classes, formula_of}
use Rattle.sw_meaning.specs.Plain.{PlainList, formulas_of}
use Rattle.sw_meaning.specs.Verdict.{Word, Verdict}

-- the words that say that no reachable state is bad
abbrev pub IsSafe : Word → Type 0
IsSafe Word.violated = ⊥
IsSafe Word.safe = Unit {0}
IsSafe (Word.safe_with f) = Unit {0}
IsSafe Word.exhausted = ⊥
IsSafe Word.unsettled = ⊥

-- under an earned list and such a word, every entry and safety are true in every reached structure
abbrev pub SafeMeansSafe : Type 0
SafeMeansSafe = (p : Protocol) (breadth finish : Option Template) (g : List Formula) (w : Word) → Earned p breadth g → Verdict p finish g w → IsSafe w →
    (s : Structure) → Reached p s → AreTrueIn p.signature s g × AreTrueIn p.signature s p.safeties

-- the same word, whichever formula joins
abbrev pub SameWord : Word → Word → Type 0
SameWord Word.violated Word.violated = Unit {0}
SameWord Word.safe Word.safe = Unit {0}
SameWord (Word.safe_with f) (Word.safe_with g) = Unit {0}
SameWord Word.exhausted Word.exhausted = Unit {0}
SameWord Word.unsettled Word.unsettled = Unit {0}
SameWord w v = ⊥

-- each of the two lists follows from the other, and they have one word
pub record OneMeaning (p : Protocol) (g h : List Formula) : Type 0 where
  pub to : AllByRecursion (Follows p g) h
  pub from : AllByRecursion (Follows p h) g
  pub word : (t : Option Template) (w v : Word) → Verdict p t g w → Verdict p t h v → SameWord w v

-- two lists that are earned and closed have one meaning
abbrev pub ListsHaveOneMeaning : Type 0
ListsHaveOneMeaning = (p : Protocol) (t : Option Template) (g h : List Formula) →
    Earned p t g → Closed p t g → Earned p t h → Closed p t h → OneMeaning p g h

-- there is at most one plain list
abbrev pub PlainIsOne : Type 0
PlainIsOne = (p : Protocol) (t : Template) (g h : List (List ℕ)) → PlainList p t g → PlainList p t h → g ≡ h

-- the formula of a class is a formula of the template, and each of those is true where that of some class is
pub record ClassesCover (p : Protocol) (t : Template) : Type 0 where
  pub sound : (class : List ℕ) → Contains (classes p.signature t) class → InSpace p t (formula_of p.signature t class)
  pub complete : (f : Formula) → InSpace p t f → (class : List ℕ) × (Contains (classes p.signature t) class
      × ((s : Structure) → truth (world p.signature s s) f [] ≡ truth (world p.signature s s) (formula_of p.signature t class) []))

-- the plain list is earned and closed
abbrev pub PlainIsEarned : Type 0
PlainIsEarned = (p : Protocol) (t : Template) (g : List (List ℕ)) → ClassesCover p t → PlainList p t g →
    Earned p (Some t) (formulas_of p t g) × Closed p (Some t) (formulas_of p t g)
