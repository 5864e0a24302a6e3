-- What a filter is to a protocol, when it is live, and which formulas it refutes.
use Rattle.std.specs.Prelude.{◌≡◌, ℕ, ◌≤◌, List, Some, slice_get}
use Rattle.std.specs.List.{AllByRecursion}
use Rattle.sw_logic.specs.declared.syntax.Formula.{Formula}
use Rattle.sw_logic.specs.declared.structure.Structure.{Structure}
use Rattle.sw_logic.specs.declared.structure.Pair.{Pair}
use Rattle.sw_logic.specs.Truth.{IsTrueIn, AreTrueIn, binds}
use Rattle.sw_logic.specs.Fits.{FitsPair}
use Rattle.sw_meaning.specs.declared.protocol.Protocol.{Protocol}
use Rattle.sw_meaning.specs.declared.protocol.Transition.{Transition}
use Rattle.sw_meaning.specs.Runs.{Start, Fires}
use Rattle.sw_filter.specs.declared.filter.Filter.{Filter}
use Rattle.sw_filter.specs.declared.filter.Filter.TheVariants as filter
use Rattle.sw_filter.specs.declared.filter.Mode.{Mode}
use Rattle.sw_filter.specs.declared.filter.Mode.TheVariants.{Breadth, Finish}

-- the transition of this number, with these values of its parameters, takes the first structure to the second
pub record IsStepBy (p : Protocol) (number : ℕ) (arguments : List ℕ) (pair : Pair) : Type 0 where
  pub fits : FitsPair p.signature pair
  pub axioms : AreTrueIn p.signature pair.before p.axioms
  pub transition : Transition
  pub numbered : slice_get p.transitions number ≡ Some transition
  pub fires : Fires p transition arguments pair

-- the filter is what it says of the protocol
abbrev pub IsAdmitted : Protocol → Filter → Type 0
IsAdmitted p (filter.Start s) = Start p s
IsAdmitted p (filter.Move pair number arguments under) = IsStepBy p number arguments pair
IsAdmitted p (filter.Bad pair number arguments under) = IsStepBy p number arguments pair × (AreTrueIn p.signature pair.after p.safeties → ⊥)

-- the list is true in the structure and, in the finisher's mode, safety
abbrev pub Obeys : Protocol → Mode → List Formula → Structure → Type 0
Obeys p Breadth g s = AreTrueIn p.signature s g
Obeys p Finish g s = AreTrueIn p.signature s g × AreTrueIn p.signature s p.safeties

-- a start is always live, and a step where its first structure obeys the list; a bad one never in the mode of breadth
abbrev pub IsLive : Protocol → Mode → List Formula → Filter → Type 0
IsLive p mode g (filter.Start s) = Unit {0}
IsLive p mode g (filter.Move pair number arguments under) = Obeys p mode g pair.before
IsLive p Breadth g (filter.Bad pair number arguments under) = ⊥
IsLive p Finish g (filter.Bad pair number arguments under) = Obeys p Finish g pair.before

-- the formula is false in the start, or true before the step and not after; before a bad step is enough
abbrev pub Refutes : Protocol → Filter → Formula → Type 0
Refutes p (filter.Start s) f = IsTrueIn p.signature s f → ⊥
Refutes p (filter.Move pair number arguments under) f = IsTrueIn p.signature pair.before f × (IsTrueIn p.signature pair.after f → ⊥)
Refutes p (filter.Bad pair number arguments under) f = IsTrueIn p.signature pair.before f

-- at most 32 variables are in scope in each formula
abbrev pub AreNarrow : List Formula → Type 0
AreNarrow fs = AllByRecursion (λ f. binds f ≤ 32) fs
