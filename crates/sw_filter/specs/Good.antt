-- Which formulas need no further look under a list.
use Rattle.std.specs.Prelude.{◌≡◌, ℕ, List, Contains}
use Rattle.sw_logic.specs.declared.syntax.Formula.{Formula}
use Rattle.sw_logic.specs.declared.structure.Structure.{Structure}
use Rattle.sw_logic.specs.declared.structure.Pair.{Pair}
use Rattle.sw_logic.specs.Truth.{IsTrueIn, AreTrueIn}
use Rattle.sw_meaning.specs.declared.protocol.Protocol.{Protocol}
use Rattle.sw_meaning.specs.Runs.{Start}
use Rattle.sw_meaning.specs.Inductive.{Follows}
use Rattle.sw_filter.specs.declared.filter.Filter.{Filter}
use Rattle.sw_filter.specs.declared.filter.Filter.TheVariants as filter
use Rattle.sw_filter.specs.declared.filter.Mode.{Mode}
use Rattle.sw_filter.specs.declared.filter.Mode.TheVariants.{Breadth, Finish}
use Rattle.sw_filter.specs.Filters.{IsStepBy, Obeys}

-- the formula is true in the structure and, in the finisher's mode, safety
abbrev pub Keeps : Protocol → Mode → Formula → Structure → Type 0
Keeps p Breadth f s = IsTrueIn p.signature s f
Keeps p Finish f s = IsTrueIn p.signature s f × AreTrueIn p.signature s p.safeties

-- a step from the list and the formula that does not keep the formula; in the finisher's mode with safety beside both
pub record Breaks (p : Protocol) (mode : Mode) (g : List Formula) (f : Formula) (number : ℕ) (arguments : List ℕ) (pair : Pair) : Type 0 where
  pub step : IsStepBy p number arguments pair
  pub before : Obeys p mode g pair.before
  pub formula : IsTrueIn p.signature pair.before f
  pub after : Keeps p mode f pair.after → ⊥

-- the filter is a start without the formula, or a step that breaks it
abbrev pub IsCounterexample : Protocol → Mode → List Formula → Formula → Filter → Type 0
IsCounterexample p mode g f (filter.Start s) = Start p s × (IsTrueIn p.signature s f → ⊥)
IsCounterexample p mode g f (filter.Move pair number arguments under) = Breaks p mode g f number arguments pair
IsCounterexample p mode g f (filter.Bad pair number arguments under) = Breaks p mode g f number arguments pair

-- one of the filters is a counterexample to the formula; in the mode of breadth it may also follow
pub data Good (p : Protocol) (mode : Mode) (g : List Formula) (f : Formula) (filters : List Filter) : Type 0 where
  refuted : (filter : Filter) → Contains filters filter → IsCounterexample p mode g f filter → Good p mode g f filters
  follows : mode ≡ Breadth → Follows p g f → Good p mode g f filters
