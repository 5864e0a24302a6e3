-- What it means that a formula is inductive under a list, and that a list is earned and closed.
use Rattle.std.specs.Prelude.{◌≡◌, true, List, [], ◌∷◌, ◌++◌, Option}
use Rattle.sw_logic.specs.declared.syntax.Formula.{Formula}
use Rattle.sw_logic.specs.declared.structure.Structure.{Structure}
use Rattle.sw_logic.specs.Truth.{AreTrueIn, IsTrueIn}
use Rattle.sw_logic.specs.Fits.{fits}
use Rattle.sw_meaning.specs.declared.protocol.Protocol.{Protocol}
use Rattle.sw_meaning.specs.Runs.{Start, Step}
use Rattle.sw_meaning.specs.declared.template.Template.{Template}
use Rattle.sw_meaning.specs.Space.{InSpaceOf}

-- the formula is true in every start (initiation)
abbrev pub AtStart : Protocol → Formula → Type 0
AtStart p f = (s : Structure) → Start p s → IsTrueIn p.signature s f

-- every step from the list and the formula ends in the formula (consecution)
abbrev pub Kept : Protocol → List Formula → Formula → Type 0
Kept p g f = (s t : Structure) → Step p s t → AreTrueIn p.signature s g → IsTrueIn p.signature s f → IsTrueIn p.signature t f

pub record Inductive (p : Protocol) (g : List Formula) (f : Formula) : Type 0 where
  pub start : AtStart p f
  pub kept : Kept p g f

-- the formula is true wherever the axioms and the list are
abbrev pub Follows : Protocol → List Formula → Formula → Type 0
Follows p g f = (s : Structure) → fits p.signature s ≡ true → AreTrueIn p.signature s p.axioms → AreTrueIn p.signature s g → IsTrueIn p.signature s f

-- each entry is of the template, inductive under those before it, and does not follow from them
abbrev pub EarnedAfter : Protocol → Option Template → List Formula → List Formula → Type 0
EarnedAfter p t before [] = Unit {0}
EarnedAfter p t before (f ∷ fs) =
    InSpaceOf p t f × Inductive p before f × (Follows p before f → ⊥) × EarnedAfter p t (before ++ f ∷ []) fs

abbrev pub Earned : Protocol → Option Template → List Formula → Type 0
Earned p t g = EarnedAfter p t [] g

-- every formula of the template that is inductive under the list follows from it
abbrev pub Closed : Protocol → Option Template → List Formula → Type 0
Closed p t g = (f : Formula) → InSpaceOf p t f → Inductive p g f → Follows p g f
