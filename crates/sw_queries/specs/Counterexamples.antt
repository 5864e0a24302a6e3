-- What a structure of a query shows.
use Rattle.std.specs.Prelude.{◌≡◌, ℕ, ◌+◌, true, List, [], ◌++◌, map, length, take, unwrap_or, slice_get, Option}
use Rattle.std.specs.List.{range_with_len}
use Rattle.sw_logic.specs.declared.syntax.Formula.{Formula}
use Rattle.sw_logic.specs.declared.structure.Table.{Table}
use Rattle.sw_logic.specs.declared.structure.Table.TheVariants.{Value}
use Rattle.sw_logic.specs.declared.structure.Structure.{Structure}
use Rattle.sw_logic.specs.declared.structure.Pair.{Pair}
use Rattle.sw_logic.specs.Fits.{fits, FitsPair}
use Rattle.sw_logic.specs.Truth.{IsTrueIn, value_in, AreTrueIn}
use Rattle.sw_meaning.specs.declared.protocol.Protocol.{Protocol}
use Rattle.sw_meaning.specs.declared.protocol.Transition.{Transition}
use Rattle.sw_meaning.specs.Runs.{Start, Fires}
use Rattle.sw_renaming.specs.Renamed.{copy_of, constant_of}

-- a start in which the formula is false
pub record FalseAtStart (p : Protocol) (f : Formula) (s : Structure) : Type 0 where
  pub start : Start p s
  pub false_in : IsTrueIn p.signature s f → ⊥

-- a structure with the axioms and the list in which the formula is false
pub record DoesNotFollow (p : Protocol) (g : List Formula) (f : Formula) (s : Structure) : Type 0 where
  pub fits : fits p.signature s ≡ true
  pub axioms : AreTrueIn p.signature s p.axioms
  pub list : AreTrueIn p.signature s g
  pub false_in : IsTrueIn p.signature s f → ⊥

-- a step of this transition, with these values of its parameters
pub record StepBy (p : Protocol) (t : Transition) (pair : Pair) (arguments : List ℕ) : Type 0 where
  pub fits : FitsPair p.signature pair
  pub axioms : AreTrueIn p.signature pair.before p.axioms
  pub fires : Fires p t arguments pair

-- such a step from these formulas to where one of those is false
pub record Leaves (p : Protocol) (t : Transition) (from to : List Formula) (pair : Pair) (arguments : List ℕ) : Type 0 where
  pub step : StepBy p t pair arguments
  pub holds_before : AreTrueIn p.signature pair.before from
  pub false_after : AreTrueIn p.signature pair.after to → ⊥

-- the table of a number, if there is one
abbrev pub table_in : Structure → ℕ → Table
table_in s n = unwrap_or (slice_get s.tables n) (Value 0)

module _ (p : Protocol) (t : Transition) where
  -- the two structures of a step in a structure of its query, and the values of the parameters
  abbrev pub before_in : Structure → Structure
  before_in s = record { sizes = s.sizes; tables = take (length p.signature.symbols) s.tables }

  abbrev pub after_in : Structure → Structure
  after_in s = record { sizes = s.sizes; tables = map (λ n. table_in s (copy_of p t n)) (range_with_len 0 (length p.signature.symbols)) }

  abbrev pub pair_in : Structure → Pair
  pair_in s = record { before = before_in s; after = after_in s }

  abbrev pub arguments_in : Structure → List ℕ
  arguments_in s = map (λ n. value_in (slice_get s.tables (constant_of p t n)) 0) (range_with_len 0 (length t.params))

  -- a step and its arguments as one structure of the query
  abbrev pub joined : Pair → List ℕ → Structure
  joined pair arguments = record {
    sizes = pair.before.sizes;
    tables = pair.before.tables ++ map (table_in pair.after) t.modifies ++ map Value arguments;
  }
