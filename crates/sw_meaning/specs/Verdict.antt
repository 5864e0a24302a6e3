-- The word on safety under a list.
use Rattle.std.specs.Prelude.{◌≡◌, Option, None, IsSome, List}
use Rattle.sw_logic.specs.declared.syntax.Formula.{Formula}
use Rattle.sw_logic.specs.declared.structure.Structure.{Structure}
use Rattle.sw_logic.specs.Truth.{AreTrueIn, IsTrueIn}
use Rattle.sw_meaning.specs.declared.protocol.Protocol.{Protocol}
use Rattle.sw_meaning.specs.Runs.{Start, Step}
use Rattle.sw_meaning.specs.declared.template.Template.{Template}
use Rattle.sw_meaning.specs.Space.{InSpaceOf}
use Rattle.sw_meaning.specs.Inductive.{AtStart}

-- what a report says of safety; `unsettled` is printed as `open`
pub data Word : Type 0 where
  violated : Word
  safe : Word
  safe_with : Formula → Word
  exhausted : Word
  unsettled : Word

-- safety is true in every start, and every step from the list and safety ends in safety
pub record SafeBy (p : Protocol) (g : List Formula) : Type 0 where
  pub start : (s : Structure) → Start p s → AreTrueIn p.signature s p.safeties
  pub step : (s t : Structure) → Step p s t → AreTrueIn p.signature s g → AreTrueIn p.signature s p.safeties → AreTrueIn p.signature t p.safeties

-- safety is false in some start
pub record Violated (p : Protocol) : Type 0 where
  pub state : Structure
  pub start : Start p state
  pub unsafe : AreTrueIn p.signature state p.safeties → ⊥

-- safety is true in every start, and some step from the list and safety does not end in safety
pub record NotSafeBy (p : Protocol) (g : List Formula) : Type 0 where
  pub start : (s : Structure) → Start p s → AreTrueIn p.signature s p.safeties
  pub before : Structure
  pub after : Structure
  pub step : Step p before after
  pub list : AreTrueIn p.signature before g
  pub safe : AreTrueIn p.signature before p.safeties
  pub unsafe : AreTrueIn p.signature after p.safeties → ⊥

-- the formula is true in every start, and with it steps keep safety and the formula
pub record Joins (p : Protocol) (g : List Formula) (f : Formula) : Type 0 where
  pub start : AtStart p f
  pub safe : (s t : Structure) → Step p s t → AreTrueIn p.signature s g → AreTrueIn p.signature s p.safeties → IsTrueIn p.signature s f → AreTrueIn p.signature t p.safeties
  pub kept : (s t : Structure) → Step p s t → AreTrueIn p.signature s g → AreTrueIn p.signature s p.safeties → IsTrueIn p.signature s f → IsTrueIn p.signature t f

-- no formula of the template joins
abbrev pub Exhausted : Protocol → Option Template → List Formula → Type 0
Exhausted p t g = (f : Formula) → InSpaceOf p t f → Joins p g f → ⊥

-- the word on a list, with the finish template if there is one
pub data Verdict (p : Protocol) (t : Option Template) (g : List Formula) (w : Word) : Type 0 where
  violated : w ≡ Word.violated → Violated p → Verdict p t g w
  safe : w ≡ Word.safe → SafeBy p g → Verdict p t g w
  safe_with : (f : Formula) → w ≡ Word.safe_with f → NotSafeBy p g → InSpaceOf p t f → Joins p g f → Verdict p t g w
  exhausted : w ≡ Word.exhausted → NotSafeBy p g → IsSome t → Exhausted p t g → Verdict p t g w
  unsettled : w ≡ Word.unsettled → NotSafeBy p g → t ≡ None → Verdict p t g w
